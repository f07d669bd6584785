-- A use of an alias as the type of a method's receiver (Go specification, Method declarations; Alias declarations).
use Rattle.std.specs.Prelude.{◌≡◌, ℕ, Bool, true, List, Some, None}
use Rattle.go_tree.specs.Tree.{NameAt, named}
use Rattle.go_tree.specs.File.{Receiver, Func, func}
use Rattle.pkg_graph.specs.Package.{Package}
use Rattle.run_rules.specs.Programs.{top_place, body_place}
use Rattle.run_rules.specs.Rewriting.{new_sig, new_stmts}
use Rattle.run_rules.specs.Sites.{MarkRef, Site, a_type_part, part_span}
use Rattle.run_rules.specs.Steps.{changes_for}
use Rattle.alias_runs.specs.QualifiedAliases.AliasUse.{AliasUse, AliasUseStands, text_there}

module _ {S : Type 0} (same : S → S → Bool) (commented : ℕ → ℕ → S → Bool) (rs : List (Package S))
    (marks : List MarkRef) (x : Site S) (u : AliasUse same commented rs marks x)
    (v : AliasUseStands same commented rs marks x u) where
  -- The use is the name of the type of a method's receiver, and the alias is declared as a name, which is written there
  -- without a package's. Nothing else of the declaration changes.
  pub record IsReceiverUse : Type 0 where
    pub method : Func S
    pub receiver : Receiver S
    pub is_method : v.decl ≡ func (record method { receiver = Some receiver })
    pub part : x.part ≡ a_type_part (named receiver.of.span None receiver.of)
    pub stands : same (part_span x.part) receiver.of.span ≡ true
    pub span : S
    pub name : NameAt S
    pub text_is : text_there same commented rs marks x u ≡ named span None name
    pub sig_stays :
        new_sig (changes_for same (part_span x.part) u.form)
        (top_place rs x.at.number x.at.of x.at.source.tree) method.sig ≡ method.sig
    pub body_stays :
        new_stmts (changes_for same (part_span x.part) u.form) (body_place rs x.at.number x.at.of x.at.source.tree
        (record method { receiver = Some receiver })) method.body ≡ method.body
