-- Methods are put into sets one after the other.
use Rattle.std.proofs.Common.{◌≡◌, ◌∙◌, ◌<◌, ◌≤◌, ◌+◌, ◌++◌, ℕ, zero, suc, List, [], ◌∷◌, Option, Some, None, Result, Ok, Err, OnOk, refl, sym, ap, ap₂, length, replicate, slice_index_or, slice_set, add-one, arith}
use Rattle.std.specs.Prelude.{slice_get}
use Rattle.type_table.specs.TypeRelations.Environment.{MethodRow}
use Rattle.type_table.specs.declared.type_relations.methods.Method.{Method}
use Rattle.type_table.specs.declared.nodes.TypeId.{TypeId}
use Rattle.package_blocks.specs.declared.headers.PackageHeader.{PackageHeader}
use Rattle.package_blocks.specs.Headers.{header_of}
use Rattle.method_types.specs.MethodNames.Known.{method_in}
use Rattle.method_types.specs.Steps.{attached_at}
use Rattle.method_types.specs.MethodSets.Steps.{Sets, put_header, put_headers, put_method, put_row}

pub on_ok : {A B : Type 0} (r : Result A B) {P Q : Type 0} → (P → Q) → OnOk r P → OnOk r Q
on_ok (Ok x) f p = f p
on_ok (Err x) f p = tt

pub type_there : (ts : List (Option TypeId)) (i : ℕ) (t : Option TypeId) → slice_get ts i ≡ Some t → t ≡ attached_at ts i
type_there [] i t e = absurd cc
type_there (x ∷ xs) zero t e = let s : x ≡ t = cc in sym s
type_there (x ∷ xs) (suc i) t e = type_there xs i t e

pub type_gone : (ts : List (Option TypeId)) (i : ℕ) → slice_get ts i ≡ None → attached_at ts i ≡ None
type_gone [] i e = refl
type_gone (x ∷ xs) zero e = absurd cc
type_gone (x ∷ xs) (suc i) e = type_gone xs i e

pub one_set_more : (i : ℕ) (x : List MethodRow) → replicate i x ++ x ∷ [] ≡ replicate (suc i) x
one_set_more zero x = refl
one_set_more (suc i) x = ap (λ xs. x ∷ xs) (one_set_more i x)

pub row_put :
    (ss : Sets) (t : ℕ) (m : MethodRow) (x d : List MethodRow) → t < length ss → x ≡ put_method m (slice_index_or ss t d) →
    slice_set ss t x ≡ put_row t m ss
row_put [] t m x d l e = absurd (omega (arith, l))
row_put (s ∷ ss) zero m x d l e = ap (λ y. y ∷ ss) e
row_put (s ∷ ss) (suc t) m x d l e = ap (λ ys. s ∷ ys) (row_put ss t m x d (omega (arith, l)) e)

pub row_gone : (ss : Sets) (t : ℕ) (m : MethodRow) → length ss ≤ t → ss ≡ put_row t m ss
row_gone [] t m l = refl
row_gone (s ∷ ss) zero m l = absurd (omega (arith, l))
row_gone (s ∷ ss) (suc t) m l = ap (λ ys. s ∷ ys) (row_gone ss t m (omega (arith, l)))

module _ (ts : List (Option TypeId)) where
  pub headers_one :
      (i : ℕ) (cs : List PackageHeader) (c : PackageHeader) (rest : List PackageHeader) → cs ≡ c ∷ rest →
      (ms : List (Option Method)) (m : Option Method) (more : List (Option Method)) → ms ≡ m ∷ more → (ss new : Sets) →
      new ≡ put_header (method_in (header_of c.kind)) (attached_at ts i) m ss →
      put_headers ts (i + 1) rest more new ≡ put_headers ts i cs ms ss
  headers_one i cs c rest d ms m more e ss new p =
      ap₂ (λ k n. put_headers ts k rest more n) (add-one i) p ∙ sym (ap₂ (λ x y. put_headers ts i x y ss) d e)

  pub headers_none : (i : ℕ) (cs : List PackageHeader) (ss : Sets) → put_headers ts i cs [] ss ≡ ss
  headers_none i [] ss = refl
  headers_none i (c ∷ cs) ss = refl
