-- What spells a declaration of constants or variables is read as it, from what is known of its parts.
use Rattle.std.proofs.Common.{◌≡◌, Bool, true, false, List, ◌∷◌, Option, Some, None, refl}
use Rattle.go_tree.specs.declared.spans.Span.{Span}
use Rattle.go_tree.specs.Tree.{NameAt, TypeExpr, Exprs, ValueSpecs, no_exprs, no_specs, spec}
use Rattle.go_tree.specs.GoWords.Terminals.{lex, assign, comma, semicolon, paren, end_paren, end_brace}
use Rattle.go_read.specs.SpellsTypes.{Lexemes, SpellsType, SpellsNames, last_name_rule, more_names_rule}
use Rattle.go_read.specs.Goals.{read_decl, read_specs, read_spec}
use Rattle.go_read.specs.Programs.{give, ask}
use Rattle.go_read.specs.ReadStmts.{decl_step, specs_after, specs_step, typed_after, typed_step, spec_after, spec_step}
use Rattle.go_read.specs.Reading.{at}
use Rattle.go_read.specs.Follows.{is_dotted, literal_follows}
use Rattle.go_read.proofs.Finds.{Runs, gives, asks, finish, is_comma, is_end_paren, ends_exprs, ends_spec, starts_word, begins_type}
use Rattle.go_read.proofs.CompleteTypes.{type_begins, type_reads, names_reads}
use Rattle.go_read.proofs.CompleteExprs.{List_of}

spec_exprs : (r : Lexemes) → ends_spec r ≡ true → ends_exprs r ≡ true
spec_exprs (lex _ semicolon ∷ _) e = refl
spec_exprs (lex _ end_brace ∷ _) e = refl
spec_exprs (lex _ end_paren ∷ _) e = refl
spec_exprs _ e = absurd cc

spec_plain : (r : Lexemes) → ends_spec r ≡ true → literal_follows r ≡ false
spec_plain (lex _ semicolon ∷ _) e = refl
spec_plain (lex _ end_brace ∷ _) e = refl
spec_plain (lex _ end_paren ∷ _) e = refl
spec_plain _ e = absurd cc

spec_single : (r : Lexemes) → ends_spec r ≡ true → is_comma r ≡ false
spec_single (lex _ comma ∷ _) e = absurd cc
spec_single _ e = refl

spec_undotted : (r : Lexemes) → ends_spec r ≡ true → is_dotted r ≡ false
spec_undotted (lex _ semicolon ∷ _) e = refl
spec_undotted (lex _ end_brace ∷ _) e = refl
spec_undotted (lex _ end_paren ∷ _) e = refl
spec_undotted _ e = absurd cc

type_single : (ts : Lexemes) → begins_type ts ≡ true → is_comma ts ≡ false
type_single (lex _ comma ∷ _) e = absurd cc
type_single _ e = refl

paren_ends : (r : Lexemes) → is_end_paren r ≡ true → ends_spec r ≡ true
paren_ends (lex _ end_paren ∷ _) e = refl
paren_ends _ e = absurd cc

module _ {S : Type 0} (mark : Lexemes → Lexemes → S) where
  names_begin : {ns : List (NameAt S)} {ts r : Lexemes} → SpellsNames mark ns ts r → starts_word ts ≡ true
  names_begin last_name_rule = refl
  names_begin (more_names_rule d) = refl

  pub record Spec_of (constant : Bool) (ns : List (NameAt S)) (t : Option (TypeExpr S)) (xs : Exprs S) (ts r : Lexemes) : Type 0 where
    pub begins : starts_word ts ≡ true
    pub reads : ends_spec r ≡ true → at mark (read_spec constant) ts ≡ Some ((ns, t, xs), r)

  repeated_go : (ns : List (NameAt S)) (r : Lexemes) → ends_spec r ≡ true → Runs mark (spec_after mark true ns r) (Some ((ns, None, no_exprs), r))
  repeated_go ns (lex _ semicolon ∷ _) q = gives mark
  repeated_go ns (lex _ end_brace ∷ _) q = gives mark
  repeated_go ns (lex _ end_paren ∷ _) q = gives mark
  repeated_go ns _ q = absurd cc

  pub repeated_reads : (ns : List (NameAt S)) (ts r : Lexemes) → SpellsNames mark ns ts r → Spec_of true ns None no_exprs ts r
  unfolding spec_step
  repeated_reads ns ts r d = record { begins = names_begin d; reads = λ q. finish mark (read_spec true) ts (asks mark (names_reads mark d (spec_single r q)) (repeated_go ns r q)) }

  spec_go : {o : Option ((List (NameAt S) × Option (TypeExpr S) × Exprs S) × Lexemes)} (constant : Bool) (ns : List (NameAt S)) (ts : Lexemes) → begins_type ts ≡ true → Runs mark (typed_step mark constant ns ts) o → Runs mark (spec_after mark constant ns ts) o
  spec_go constant ns (lex _ (assign None) ∷ ts) b k = absurd cc
  spec_go true ns (lex _ semicolon ∷ ts) b k = absurd cc
  spec_go true ns (lex _ end_paren ∷ ts) b k = absurd cc
  spec_go true ns (lex _ end_brace ∷ ts) b k = absurd cc
  spec_go constant ns _ b k = k

  typed_go : (ns : List (NameAt S)) (t : TypeExpr S) (r : Lexemes) → ends_spec r ≡ true → Runs mark (typed_after mark false ns t r) (Some ((ns, Some t, no_exprs), r))
  typed_go ns t (lex _ (assign None) ∷ _) q = absurd cc
  typed_go ns t _ q = gives mark

  pub typed_var_reads : (ns : List (NameAt S)) (t : TypeExpr S) (ts mid r : Lexemes) → SpellsNames mark ns ts mid → SpellsType mark t mid r → Spec_of false ns (Some t) no_exprs ts r
  unfolding spec_step
  typed_var_reads ns t ts mid r d k = record {
    begins = names_begin d;
    reads = λ q. finish mark (read_spec false) ts (asks mark (names_reads mark d (type_single mid (type_begins mark k)))
        (spec_go false ns mid (type_begins mark k) (asks mark (type_reads mark k (spec_undotted r q)) (typed_go ns t r q))));
  }

  pub values_reads : (s : Span) (constant : Bool) (ns : List (NameAt S)) (xs : Exprs S) (ts mid r : Lexemes) → SpellsNames mark ns ts (lex s (assign None) ∷ mid) → List_of mark false xs mid r → Spec_of constant ns None xs ts r
  unfolding spec_step
  values_reads s constant ns xs ts mid r d l = record {
    begins = names_begin d;
    reads = λ q. finish mark (read_spec constant) ts (asks mark (names_reads mark d refl) (asks mark (l.reads (spec_plain r q) (spec_exprs r q)) (gives mark)));
  }

  pub typed_values_reads : (s : Span) (constant : Bool) (ns : List (NameAt S)) (t : TypeExpr S) (xs : Exprs S) (ts mid mid2 r : Lexemes) → SpellsNames mark ns ts mid → SpellsType mark t mid (lex s (assign None) ∷ mid2) → List_of mark false xs mid2 r
      → Spec_of constant ns (Some t) xs ts r
  unfolding spec_step
  typed_values_reads s constant ns t xs ts mid mid2 r d k l = record {
    begins = names_begin d;
    reads = λ q. finish mark (read_spec constant) ts (asks mark (names_reads mark d (type_single mid (type_begins mark k)))
        (spec_go constant ns mid (type_begins mark k) (asks mark (type_reads mark k refl) (asks mark (l.reads (spec_plain r q) (spec_exprs r q)) (gives mark)))));
  }

  abbrev pub Specs_of : Bool → ValueSpecs S → Lexemes → Lexemes → Type 0
  Specs_of constant ss ts r = is_end_paren r ≡ true → at mark (read_specs constant) ts ≡ Some (ss, r)

  specs_none : (constant : Bool) (r : Lexemes) → is_end_paren r ≡ true → Runs mark (specs_step mark constant r) (Some (no_specs, r))
  unfolding specs_step
  specs_none constant (lex _ end_paren ∷ _) q = gives mark
  specs_none constant _ q = absurd cc

  specs_go : {o : Option (ValueSpecs S × Lexemes)} (constant : Bool) (ts : Lexemes) → starts_word ts ≡ true → Runs mark (ask (read_spec constant) ts (λ x r. specs_after mark constant ts x r)) o → Runs mark (specs_step mark constant ts) o
  unfolding specs_step
  specs_go constant (lex _ end_paren ∷ _) b k = absurd cc
  specs_go constant _ b k = k

  pub no_specs_reads : (constant : Bool) (r : Lexemes) → Specs_of constant no_specs r r
  no_specs_reads constant r q = finish mark (read_specs constant) r (specs_none constant r q)

  pub last_spec_reads : (constant : Bool) (e : Span) (ns : List (NameAt S)) (t : Option (TypeExpr S)) (xs : Exprs S) (ts r : Lexemes) → Spec_of constant ns t xs ts (lex e end_paren ∷ r) → Specs_of constant (spec (mark ts (lex e end_paren ∷ r)) ns t xs no_specs) ts (lex e end_paren ∷ r)
  last_spec_reads constant e ns t xs ts r f q = finish mark (read_specs constant) ts (specs_go constant ts f.begins (asks mark (f.reads refl) (gives mark)))

  pub more_specs_reads : (constant : Bool) (c : Span) (ns : List (NameAt S)) (t : Option (TypeExpr S)) (xs : Exprs S) (ss : ValueSpecs S) (ts mid r : Lexemes) → Spec_of constant ns t xs ts (lex c semicolon ∷ mid) → Specs_of constant ss mid r
      → Specs_of constant (spec (mark ts (lex c semicolon ∷ mid)) ns t xs ss) ts r
  more_specs_reads constant c ns t xs ss ts mid r f k q = finish mark (read_specs constant) ts (specs_go constant ts f.begins (asks mark (f.reads refl) (asks mark (k q) (gives mark))))

  abbrev pub Decl_of : Bool → Bool → ValueSpecs S → Lexemes → Lexemes → Type 0
  Decl_of constant grouped ss ts r = ends_spec r ≡ true → at mark (read_decl constant) ts ≡ Some ((grouped, ss), r)

  decl_go : {o : Option ((Bool × ValueSpecs S) × Lexemes)} (constant : Bool) (ts : Lexemes) → starts_word ts ≡ true → Runs mark (ask (read_spec constant) ts (λ x r. give (false, spec (mark ts r) x.0 x.1 x.2 no_specs) r)) o → Runs mark (decl_step mark constant ts) o
  unfolding decl_step
  decl_go constant (lex _ paren ∷ _) b k = absurd cc
  decl_go constant _ b k = k

  pub single_reads : (constant : Bool) (ns : List (NameAt S)) (t : Option (TypeExpr S)) (xs : Exprs S) (ts r : Lexemes) → Spec_of constant ns t xs ts r → Decl_of constant false (spec (mark ts r) ns t xs no_specs) ts r
  single_reads constant ns t xs ts r f q = finish mark (read_decl constant) ts (decl_go constant ts f.begins (asks mark (f.reads q) (gives mark)))

  pub group_reads : (constant : Bool) (s e : Span) (ss : ValueSpecs S) (ts r : Lexemes) → Specs_of constant ss ts (lex e end_paren ∷ r) → Decl_of constant true ss (lex s paren ∷ ts) r
  unfolding decl_step
  group_reads constant s e ss ts r k q = finish mark (read_decl constant) (lex s paren ∷ ts) (asks mark (k refl) (gives mark))
