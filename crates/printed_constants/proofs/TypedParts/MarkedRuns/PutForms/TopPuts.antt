-- A declaration of the package block in which an expression is answered for, by its parts.
use Rattle.std.proofs.Common.{◌≡◌, inl, inr, refl, sym}
use Rattle.std.specs.Prelude.{ℕ, suc, Bool, false, List, [], ◌∷◌, ◌++◌, Option, Some, None, map}
use Rattle.std.specs.Option.{option_map}
use Rattle.go_tree.specs.Tree.{NameAt, TypeExpr, named, Exprs, ValueSpecs, no_specs, spec}
use Rattle.go_tree.specs.Bare.{bare_name, bare_value_specs}
use Rattle.go_tree.specs.File.{TypeSpec, Receiver, Func, Decl, func, File}
use Rattle.go_tree.specs.FileBare.{bare_receiver, bare_decl}
use Rattle.pkg_graph.specs.Package.{Package}
use Rattle.run_rules.specs.Surroundings.{Place, seen_type, alike, value_use, in_constant}
use Rattle.run_rules.specs.Places.{written_seen, sig_seen, all_seen, stmts_seen}
use Rattle.run_rules.specs.Programs.{top_place, body_place, constants_at_top, variables_at_top, types_at_top, receiver_seen, func_seen}
use Rattle.run_rules.specs.Quiet.{AllQuiet}
use Rattle.run_rules.specs.Steps as steps
use Rattle.run_rules.specs.Respanned.{name_with, type_option_with, sig_with, exprs_with, specs_with, receiver_with, func_with}
use Rattle.splice_laws.specs.Swaps.{in_spec_values, in_later_specs, DeclIn, in_function}
use Rattle.printed_constants.proofs.TypedParts.MarkedRuns.PutForms.Puts.{Ask, Only, front, back, pick, last, no_written, no_sig, ExprsPut, StmtsPut, SpecsPut, Put}
use Rattle.printed_constants.proofs.TypedParts.MarkedRuns.PutForms.Silent.{exprs_quiet, written_quiet, sig_quiet, names_quiet}

module _ {A B : Type 0} (k : Ask A B) (same : A → A → Bool) (ps : List (Package A)) where
  top_constants_quiet : (q : Place A) (i : ℕ) (ss : ValueSpecs A) → AllQuiet k.changes (constants_at_top ps q i ss) → bare_value_specs (specs_with k.to ss) ≡ bare_value_specs (steps.new_constants same ps k.changes q i ss)
  top_constants_quiet q i no_specs h = refl
  top_constants_quiet q i (spec s ns t es ss) h =
      let x = front k (written_seen (in_constant i q) t ++ all_seen (in_constant i q) (alike (value_use q.env t) ns) es) (constants_at_top ps q (suc i) ss) h in
      λ w. spec tt (names_quiet k ns w)
      (written_quiet k (in_constant i q) t (front k (written_seen (in_constant i q) t) (all_seen (in_constant i q) (alike (value_use q.env t) ns) es) x) w)
      (exprs_quiet k (in_constant i q) (alike (value_use q.env t) ns) es (back k (written_seen (in_constant i q) t) (all_seen (in_constant i q) (alike (value_use q.env t) ns) es) x) w)
      (top_constants_quiet q (suc i) ss (back k (written_seen (in_constant i q) t ++ all_seen (in_constant i q) (alike (value_use q.env t) ns) es) (constants_at_top ps q (suc i) ss) h) w)

  top_variables_quiet : (q : Place A) (ss : ValueSpecs A) → AllQuiet k.changes (variables_at_top ps q ss) → bare_value_specs (specs_with k.to ss) ≡ bare_value_specs (steps.new_variables same ps k.changes q ss)
  top_variables_quiet q no_specs h = refl
  top_variables_quiet q (spec s ns t es ss) h =
      let x = front k (written_seen q t ++ all_seen q (alike (value_use q.env t) ns) es) (variables_at_top ps q ss) h in
      λ w. spec tt (names_quiet k ns w)
      (written_quiet k q t (front k (written_seen q t) (all_seen q (alike (value_use q.env t) ns) es) x) w)
      (exprs_quiet k q (alike (value_use q.env t) ns) es (back k (written_seen q t) (all_seen q (alike (value_use q.env t) ns) es) x) w)
      (top_variables_quiet q ss (back k (written_seen q t ++ all_seen q (alike (value_use q.env t) ns) es) (variables_at_top ps q ss) h) w)

  pub top_constant : (q : Place A) (i : ℕ) (s : A) (ns : List (NameAt A)) (t : Option (TypeExpr A)) (es : Exprs A) (ss : ValueSpecs A) → (Only k (all_seen (in_constant i q) (alike (value_use q.env t) ns) es) → ExprsPut k (in_constant i q) (alike (value_use q.env t) ns) es false) → (Only k (constants_at_top ps q (suc i) ss) → SpecsPut k ss (steps.new_constants same ps k.changes q (suc i) ss)) → Only k (written_seen (in_constant i q) t ++ all_seen (in_constant i q) (alike (value_use q.env t) ns) es ++ constants_at_top ps q (suc i) ss) → SpecsPut k (spec s ns t es ss) (steps.new_constants same ps k.changes q i (spec s ns t es ss))
  top_constant q i s ns t es ss f1 f2 o =
      pick k (written_seen (in_constant i q) t ++ all_seen (in_constant i q) (alike (value_use q.env t) ns) es) (constants_at_top ps q (suc i) ss) o
      (λ a b. pick k (written_seen (in_constant i q) t) (all_seen (in_constant i q) (alike (value_use q.env t) ns) es) a (λ x y. absurd (no_written k (in_constant i q) t x))
      (λ x y. let r = f1 y in
      record {
        swap = r.swap;
        value = spec (k.to s) (map (name_with k.to) ns) (type_option_with k.to t) r.value (specs_with k.to ss);
        into = in_spec_values r.into;
        made = λ w. spec tt (names_quiet k ns w) (written_quiet k (in_constant i q) t x w) (r.made w) (top_constants_quiet q (suc i) ss b w);
        stands = r.stands;
      }))
      (λ a b. let r = f2 b in
      record {
        swap = r.swap;
        value = spec (k.to s) (map (name_with k.to) ns) (type_option_with k.to t) (exprs_with k.to es) r.value;
        into = in_later_specs r.into;
        made =
            λ w. spec tt (names_quiet k ns w) (written_quiet k (in_constant i q) t (front k (written_seen (in_constant i q) t) (all_seen (in_constant i q) (alike (value_use q.env t) ns) es) a) w)
            (exprs_quiet k (in_constant i q) (alike (value_use q.env t) ns) es (back k (written_seen (in_constant i q) t) (all_seen (in_constant i q) (alike (value_use q.env t) ns) es) a) w) (r.made w);
        stands = r.stands;
      })

  pub top_variable : (q : Place A) (s : A) (ns : List (NameAt A)) (t : Option (TypeExpr A)) (es : Exprs A) (ss : ValueSpecs A) → (Only k (all_seen q (alike (value_use q.env t) ns) es) → ExprsPut k q (alike (value_use q.env t) ns) es false) → (Only k (variables_at_top ps q ss) → SpecsPut k ss (steps.new_variables same ps k.changes q ss)) → Only k (written_seen q t ++ all_seen q (alike (value_use q.env t) ns) es ++ variables_at_top ps q ss) → SpecsPut k (spec s ns t es ss) (steps.new_variables same ps k.changes q (spec s ns t es ss))
  top_variable q s ns t es ss f1 f2 o =
      pick k (written_seen q t ++ all_seen q (alike (value_use q.env t) ns) es) (variables_at_top ps q ss) o
      (λ a b. pick k (written_seen q t) (all_seen q (alike (value_use q.env t) ns) es) a (λ x y. absurd (no_written k q t x))
      (λ x y. let r = f1 y in
      record {
        swap = r.swap;
        value = spec (k.to s) (map (name_with k.to) ns) (type_option_with k.to t) r.value (specs_with k.to ss);
        into = in_spec_values r.into;
        made = λ w. spec tt (names_quiet k ns w) (written_quiet k q t x w) (r.made w) (top_variables_quiet q ss b w);
        stands = r.stands;
      }))
      (λ a b. let r = f2 b in
      record {
        swap = r.swap;
        value = spec (k.to s) (map (name_with k.to) ns) (type_option_with k.to t) (exprs_with k.to es) r.value;
        into = in_later_specs r.into;
        made =
            λ w. spec tt (names_quiet k ns w) (written_quiet k q t (front k (written_seen q t) (all_seen q (alike (value_use q.env t) ns) es) a) w)
            (exprs_quiet k q (alike (value_use q.env t) ns) es (back k (written_seen q t) (all_seen q (alike (value_use q.env t) ns) es) a) w) (r.made w);
        stands = r.stands;
      })

  no_receiver : (q : Place A) (r : Option (Receiver A)) → Only k (receiver_seen ps q r) → ⊥
  no_receiver q None o = o
  no_receiver q (Some r) o = last k (seen_type q (named r.of.span None r.of)) o

  receiver_quiet : (q : Place A) (r : Option (Receiver A)) → AllQuiet k.changes (receiver_seen ps q r)
      → option_map bare_receiver (option_map (receiver_with k.to) r) ≡ option_map bare_receiver (steps.new_receiver_option same ps k.changes q r)
  receiver_quiet q None h = refl
  receiver_quiet q (Some r) h =
      λ w. Some (record { span = tt; name = receiver_name r.name w; pointer = r.pointer; of = bare_name (steps.name_in same ps k.changes r.of (sym h.0 w)) })
    where
      receiver_name : (n : Option (NameAt A)) → option_map bare_name (option_map (name_with k.to) n) ≡ option_map bare_name n
      receiver_name None = refl
      receiver_name (Some n) = refl

  pub put_func : (n : ℕ) (p : Package A) (file : File A) (g : Func A) → (Only k (stmts_seen (body_place ps n p file g) g.body) → StmtsPut k (body_place ps n p file g) g.body) → Only k (func_seen ps n p file g)
      → Put k (Decl B) (Decl (Unit {0})) (λ w c. DeclIn w (func (func_with k.to g)) c) (λ c. bare_decl c) (bare_decl (steps.new_decl same ps k.changes n p file (func g)))
  put_func n p file g f o =
      pick k (receiver_seen ps (top_place ps n p file) g.receiver ++ sig_seen (top_place ps n p file) g.sig) (stmts_seen (body_place ps n p file g) g.body) o
      (λ a b. absurd (pick k (receiver_seen ps (top_place ps n p file) g.receiver) (sig_seen (top_place ps n p file) g.sig) a (λ x y. no_receiver (top_place ps n p file) g.receiver x) (λ x y. no_sig k (top_place ps n p file) g.sig y)))
      (λ a b. let r = f b in
      record {
        swap = r.swap;
        value =
            func (record { span = k.to g.span; receiver = option_map (receiver_with k.to) g.receiver; name = name_with k.to g.name; sig = sig_with k.to g.sig; body_span = k.to g.body_span; body = r.value });
        into = in_function r.into;
        made =
            λ w. func (record {
              span = tt;
              receiver = receiver_quiet (top_place ps n p file) g.receiver (front k (receiver_seen ps (top_place ps n p file) g.receiver) (sig_seen (top_place ps n p file) g.sig) a) w;
              name = bare_name g.name;
              sig = sig_quiet k (top_place ps n p file) g.sig (back k (receiver_seen ps (top_place ps n p file) g.receiver) (sig_seen (top_place ps n p file) g.sig) a) w;
              body_span = tt;
              body = r.made w;
            });
        stands = r.stands;
      })

module _ {A B : Type 0} (k : Ask A B) (ps : List (Package A)) where
  pub no_types : (q : Place A) (ts : List (TypeSpec A)) → Only k (types_at_top ps q ts) → ⊥
  no_types q [] o = o
  no_types q (t ∷ ts) (inl h) = h.0
  no_types q (t ∷ ts) (inr h) = no_types q ts h.1
