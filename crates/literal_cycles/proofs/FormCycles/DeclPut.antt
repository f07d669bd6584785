-- A function in whose body a form is put: the rest of it stays, and it calls what its body does.
use Rattle.std.proofs.Common.{◌≡◌, refl, sym, ◌∙◌, ℕ, Bool, List, [], ◌++◌, Option, Some, None}
use Rattle.go_tree.specs.Tree.{named}
use Rattle.go_tree.specs.File.{Receiver, Func, func, File}
use Rattle.pkg_graph.specs.Package.{Package}
use Rattle.run_rules.specs.Surroundings.{Place, Seen}
use Rattle.run_rules.specs.Places.{sig_seen, stmts_seen}
use Rattle.run_rules.specs.Programs.{top_place, body_place, receiver_seen, decl_seen}
use Rattle.run_rules.specs.Rewriting.{Changes, new_stmts}
use Rattle.run_rules.specs.Sites.{MarkRef, Where}
use Rattle.run_rules.specs.FormTrees.{Form}
use Rattle.run_rules.specs.Steps.{changes_for, name_in, new_receiver_option, new_decl}
use Rattle.order_runs.specs.CycleLaws.PutCalls.{GivesWayAmong, mark_there, called_among}
use Rattle.order_runs.proofs.CycleLaws.Gives.{gives-eq, gives-then}
use Rattle.order_runs.proofs.CycleLaws.Walked.{app, type-led, sig-led}
use Rattle.literal_cycles.specs.FormCycles.Bodies.{IsNoType}
use Rattle.literal_cycles.proofs.FormCycles.BodiesPut.{type-stays, sig-same}

module _ {S : Type 0} (same : S → S → Bool) (ps : List (Package S)) (z : S) (f : Form S) (none : IsNoType f) (k : ℕ) (pk : Package S) (file : File S) where
  abbrev c : Changes S
  c = changes_for same z f

  abbrev q : Place S
  q = top_place ps k pk file

  pub receiver-same : (r : Option (Receiver S)) → new_receiver_option same ps c q r ≡ r
  receiver-same None = refl
  receiver-same (Some r) = λ v. Some (record r { of = name_in same ps c r.of (type-stays same z f none q (named r.of.span None r.of) v) })

  -- the function with the form put in its body
  abbrev pub put_in : Func S → Func S
  put_in g = record g { body = new_stmts c (body_place ps k pk file g) g.body }

  pub func-put : (g : Func S) → new_decl same ps c k pk file (func g) ≡ func (put_in g)
  func-put g = λ v. func (record g {
    receiver = receiver-same g.receiver v;
    sig = sig-same same z f none q g.sig v;
    body = new_stmts c (body_place ps k pk file g) g.body;
  })

-- ---- calls

module _ {S : Type 0} (ps : List (Package S)) (marks : List MarkRef) (w : Where S) (at : ℕ) (k : ℕ) (pk : Package S) (file : File S) where
  abbrev called : List (Seen S) → List MarkRef
  called xs = called_among ps marks w at xs

  abbrev top : Place S
  top = top_place ps k pk file

  receiver-none : (r : Option (Receiver S)) → called (receiver_seen ps top r) ≡ []
  receiver-none None = refl
  receiver-none (Some r) = type-led ps marks w at top (named r.of.span None r.of)

  pub func-calls : (g : Func S) → called (decl_seen ps k pk file (func g)) ≡ called (stmts_seen (body_place ps k pk file g) g.body)
  func-calls g =
      app ps marks w at (receiver_seen ps top g.receiver ++ sig_seen top g.sig) (stmts_seen (body_place ps k pk file g) g.body)
      (app ps marks w at (receiver_seen ps top g.receiver) (sig_seen top g.sig) (receiver-none g.receiver) (sig-led ps marks w at top g.sig)) refl

  -- so a declaration gives way as the body does
  pub func-gives : (same : S → S → Bool) (z : S) (f : Form S) (none : IsNoType f) (m : MarkRef) (g : Func S)
      → GivesWayAmong ps marks (mark_there w at) m (called (stmts_seen (body_place ps k pk file g) (new_stmts (changes_for same z f) (body_place ps k pk file g) g.body))) (called (stmts_seen (body_place ps k pk file g) g.body))
      → GivesWayAmong ps marks (mark_there w at) m (called (decl_seen ps k pk file (new_decl same ps (changes_for same z f) k pk file (func g)))) (called (decl_seen ps k pk file (func g)))
  func-gives same z f none m g h =
      gives-eq ((λ v. called (decl_seen ps k pk file (func-put same ps z f none k pk file g v))) ∙ func-calls (put_in same ps z f none k pk file g)) (gives-then h (sym (func-calls g)))
