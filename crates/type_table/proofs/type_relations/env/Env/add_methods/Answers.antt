use Rattle.std.proofs.Common.{◌≡◌, ℕ, List, map, false, subst, sym, ap, ◌∙◌, ◌++◌, ◌∷◌, [], nat_eq}
use Rattle.indexmap.proofs.CallerLemmas.{insert_entry-new}
use Rattle.type_table.specs.TypeRelations.Environment.{MethodsWithin, SetsWithin, has_methods, MethodRow}
use Rattle.type_table.specs.TypeRelations.Inside.{definition_of, seen}
use Rattle.type_table.proofs.TypeRelations.GrownLaws.{one_more_set, no_set, environment}
use Rattle.type_table.proofs.type_relations.env.Env.add_methods.Goals as goal

pub invariant_of-self-2 : goal.invariant_of-self-2
invariant_of-self-2 c =
    let none : has_methods c.self.inside.methods.entries c.args.t.0 ≡ false = ap (λ e. has_methods e.methods c.args.t.0) c.self.view_is ∙ c.requires.none in
    let added : c.insert.new.self.entries ≡ c.self.inside.methods.entries ++ (c.args.t.0, c.args.methods) ∷ [] = c.in_ok-insert.ensures.entries ∙ insert_entry-new nat_eq c.self.inside.methods c.args.t.0 c.args.methods (no_set c.self.inside.methods.entries c.args.t.0 none) in
    let within : MethodsWithin (seen c.self.inside).rows c.args.methods = subst (λ e. MethodsWithin e.rows c.args.methods) (sym c.self.view_is) c.requires.within in
    record {
      table = c.self.invariant.table;
      defined = c.self.invariant.defined;
      methods = subst (SetsWithin (seen c.self.inside).rows) (sym added) (one_more_set (seen c.self.inside).rows c.self.inside.methods.entries c.args.t.0 c.args.methods c.self.invariant.methods within);
    }

pub returns-clause-added : goal.returns-clause-added
returns-clause-added c =
    let none : has_methods c.self.inside.methods.entries c.args.t.0 ≡ false = ap (λ e. has_methods e.methods c.args.t.0) c.self.view_is ∙ c.requires.none in
    let added : c.insert.new.self.entries ≡ c.self.inside.methods.entries ++ (c.args.t.0, c.args.methods) ∷ [] = c.in_ok-insert.ensures.entries ∙ insert_entry-new nat_eq c.self.inside.methods c.args.t.0 c.args.methods (no_set c.self.inside.methods.entries c.args.t.0 none) in
    rw (← c.self.view_is) (ap (λ (ms : List (ℕ × List MethodRow)). environment c.self.inside.types ms (map definition_of c.self.inside.unders.entries)) added)
