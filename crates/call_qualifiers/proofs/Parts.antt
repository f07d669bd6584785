-- What is told of a declaration's parts is told of those of a function's signature and body, and of an alias.
use Rattle.std.proofs.Common.{◌≡◌, ℕ, zero, suc, List, [], ◌∷◌, ◌++◌, Option, Some, None, ap, subst}
use Rattle.std.specs.Prelude.{slice_get}
use Rattle.std.proofs.lemmas.Option.{same_Some}
use Rattle.go_tree.specs.declared.spans.Span.{Span}
use Rattle.go_tree.specs.File.{TypeSpec, Receiver, Func}
use Rattle.pkg_graph.specs.Package.{Package}
use Rattle.run_rules.specs.Naming.{Names}
use Rattle.run_rules.specs.Places.{sig_seen, stmts_seen}
use Rattle.run_rules.specs.Programs.{top_place, body_place, receiver_seen, types_at_top, func_seen}
use Rattle.run_rules.specs.Sites.{Where, named_in}
use Rattle.run_rules.specs.Surroundings.{Place, Seen}
use Rattle.call_forms.specs.ToldNames.{AllTold, TypesTold}

module _ {S : Type 0} (to : S → Span) (told : Span → Option (List ℕ)) (ps : List (Package S)) (w : Where S) (there : ℕ) (names : Names) where
  abbrev AllRight : List (Seen S) → Type 0
  AllRight xs = AllTold to told ps w there names xs

  in_two : (xs ys : List (Seen S)) → AllRight (xs ++ ys) → AllRight xs × AllRight ys
  in_two [] ys h = (tt, h)
  in_two (x ∷ xs) ys h = let q = in_two xs ys h.1 in ((h.0, q.0), q.1)

  pub function_told : (f : Func S) → f.receiver ≡ None → AllRight (func_seen ps w.number w.of w.source.tree f)
      → AllRight (sig_seen (top_place ps w.number w.of w.source.tree) f.sig) × AllRight (stmts_seen (body_place ps w.number w.of w.source.tree f) f.body)
  function_told f e h =
      let top : Place S = top_place ps w.number w.of w.source.tree in
      let sig : List (Seen S) = sig_seen (top_place ps w.number w.of w.source.tree) f.sig in
      let body : List (Seen S) = stmts_seen (body_place ps w.number w.of w.source.tree f) f.body in
      in_two sig body (subst AllRight (ap (λ (r : Option (Receiver S)). receiver_seen ps top r ++ sig ++ body) e) h)

  pub alias_told : (p : Place S) (ts : List (TypeSpec S)) (i : ℕ) (x : TypeSpec S) → slice_get ts i ≡ Some x → AllRight (types_at_top ps p ts) → TypesTold to told ps w there names p (named_in x.of)
  alias_told p [] i x e h = absurd cc
  alias_told p (t ∷ ts) zero x e h = subst (λ (y : TypeSpec S). TypesTold to told ps w there names p (named_in y.of)) (same_Some t x e) h.0
  alias_told p (t ∷ ts) (suc i) x e h = alias_told p ts i x e h.1
