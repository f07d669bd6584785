use Rattle.std.proofs.Common.{◌≡◌, false, map, subst, sym, ap, ◌∙◌, ◌++◌, ◌∷◌, [], nat_eq}
use Rattle.indexmap.proofs.CallerLemmas.{insert_entry-new}
use Rattle.type_table.specs.TypeRelations.Environment.{IsDefinition, AreDefinitions, IsEnvironment, is_defined}
use Rattle.type_table.specs.TypeRelations.Inside.{definition_of, seen}
use Rattle.type_table.proofs.TypeRelations.GrownLaws.{may_define, environment, one_more_defined, added_entry, no_entry}
use Rattle.type_table.proofs.type_relations.env.Env.define.Goals as goal

-- the definitions after the call
added : (c : goal.In_ok-insert) → map definition_of c.insert.new.self.entries ≡ map definition_of c.self.inside.unders.entries ++ record { type = c.args.t.0; under = c.args.under.0 } ∷ []
added c =
    let none : is_defined (map definition_of c.self.inside.unders.entries) c.args.t.0 ≡ false = ap (λ e. is_defined e.defined c.args.t.0) c.self.view_is ∙ c.requires.new in
    ap (map definition_of) (c.in_ok-insert.ensures.entries ∙ insert_entry-new nat_eq c.self.inside.unders c.args.t.0 c.args.under (no_entry c.self.inside.unders.entries c.args.t.0 none))
    ∙ added_entry c.self.inside.unders.entries c.args.t.0 c.args.under

pub invariant_of-self-2 : goal.invariant_of-self-2
invariant_of-self-2 c =
    let named : IsDefinition (seen c.self.inside).rows (record { type = c.args.t.0; under = c.args.under.0 }) = subst (λ e. IsDefinition e.rows (record { type = c.args.t.0; under = c.args.under.0 })) (sym c.self.view_is) (may_define c.args.self.now (subst IsEnvironment c.self.view_is c.self.invariant) c.args.t.0 c.args.under.0 c.requires.known c.requires.within c.requires.named) in
    record {
      table = c.self.invariant.table;
      defined = subst (AreDefinitions (seen c.self.inside).rows) (sym (added c)) (one_more_defined (seen c.self.inside).rows (seen c.self.inside).defined (record { type = c.args.t.0; under = c.args.under.0 }) c.self.invariant.defined named);
      methods = c.self.invariant.methods;
    }

pub returns-clause-defined : goal.returns-clause-defined
returns-clause-defined c =
    rw (← c.self.view_is) (ap (environment c.self.inside.types c.self.inside.methods.entries) (added c))
