-- What the code finds in a declaration is what keeps a use of it.
use Rattle.std.proofs.Common.{◌≡◌, ◌∙◌, ℕ, Bool, List, [], ◌∷◌, map, Option, Some, None, refl, sym, ap}
use Rattle.std.specs.Option.{option_map}
use Rattle.go_tree.specs.declared.spans.Span.{Span}
use Rattle.go_tree.specs.Tree.{NameAt, named, pointer, slice_type, map_type, struct_type, ident, int_lit, rune_lit, str_lit, composite, selector, index, slice, call, func_lit, type_operand, unary, binary, star}
use Rattle.go_tree.specs.File.{Decl}
use Rattle.go_tree.specs.GoTypes.Answers.{given, one_of}
use Rattle.pkg_graph.specs.Package.{Package}
use Rattle.run_rules.specs.Obstacles.{first_answer, shadowed_here}
use Rattle.run_rules.specs.Programs.{decl_seen}
use Rattle.run_rules.specs.Respanned.{name_with, decl_with}
use Rattle.run_rules.specs.Run.{here_of}
use Rattle.run_rules.specs.Sites.{Where, Part, an_expr, a_type_part}
use Rattle.run_rules.specs.Steps.{At}
use Rattle.run_rules.specs.Surroundings.{Place}
use Rattle.member_uses.specs.PossibleUses.Candidates.{Candidate}
use Rattle.member_uses.specs.PossibleUses.Parts.{parts_of}
use Rattle.member_uses.specs.Uses.{Names, type_package}
use Rattle.member_uses.specs.Views.{names_in}
use Rattle.member_uses.proofs.PlacesMean.{places_mean, blocks_local}
use Rattle.member_uses.proofs.Stays.{candidate_with, after_decl-stays}
use Rattle.repeated_parts.specs.declared.literal_types.table.LiteralTypes.{LiteralTypes}
use Rattle.repeated_parts.specs.declared.literal_types.table.TypeScopes.{TypeScopes}
use Rattle.repeated_parts.specs.Flags.{Flags, flags_of}
use Rattle.repeated_parts.specs.LiteralTypes.Tables.{TypeNumbers, number_in, numbers_in}
use Rattle.repeated_parts.specs.UsesRepeated.Uses.{first_flag, later_flags}
use Rattle.repeated_parts.proofs.Walked.{flags_follow}
use Rattle.repeated_parts.proofs.UseSearch.UsesOfMarks.FlagsStay.{back, flags_stay}
use Rattle.shadowed_names.specs.declared.places.UsePlace.{UsePlace}
use Rattle.shadowed_names.specs.Told.{first_told, shadowed_part}
use Rattle.shadowed_names.specs.Uses.{IsToldUse}
use Rattle.shadowed_names.proofs.Firsts.{firsts_are}
use Rattle.shadowed_names.proofs.Along.{all_are}

-- ---- other spans leave what is found

module _ {S : Type 0} (to : S → Span) (f g : Names) (at : ℕ) where
  part_stays : (key : Bool) (x : Part S) → shadowed_part (λ s. s) f g at (candidate_with to (record { part = x; key = key })).part ≡ shadowed_part to f g at x
  part_stays key (an_expr (ident s n)) = refl
  part_stays key (an_expr (int_lit s n)) = refl
  part_stays key (an_expr (rune_lit s n)) = refl
  part_stays key (an_expr (str_lit s n)) = refl
  part_stays key (an_expr (composite s t es)) = refl
  part_stays key (an_expr (selector s b n)) = refl
  part_stays key (an_expr (index s b i)) = refl
  part_stays key (an_expr (slice s b i j)) = refl
  part_stays key (an_expr (call s g xs r)) = refl
  part_stays key (an_expr (func_lit s g z b)) = refl
  part_stays key (an_expr (type_operand s t)) = refl
  part_stays key (an_expr (unary s o e)) = refl
  part_stays key (an_expr (binary s o a b)) = refl
  part_stays key (an_expr (star s e)) = refl
  part_stays key (a_type_part (named s None n)) = refl
  part_stays key (a_type_part (named s (Some q) n)) = refl
  part_stays key (a_type_part (pointer s t)) = refl
  part_stays key (a_type_part (slice_type s t)) = refl
  part_stays key (a_type_part (map_type s k t)) = refl
  part_stays key (a_type_part (struct_type s fs)) = refl

  first_stays : (cs : List (Candidate S)) (ms : Flags) → first_told (shadowed_part (λ s. s) f g at) (map (candidate_with to) cs) ms ≡ first_told (shadowed_part to f g at) cs ms
  first_stays [] ms = refl
  first_stays (c ∷ cs) ms =
      λ v. one_of (given (first_flag ms) (λ m. part_stays c.key c.part v)) (first_stays cs (later_flags ms) v)

  name_stays : (t : LiteralTypes) (s : S) (q : Option (NameAt S)) (n : NameAt S)
      → given (type_package f (option_map (name_with to) q) n.name (to s).start) (λ k. number_in t k n.name) ≡ given (type_package f q n.name (to s).start) (λ k. number_in t k n.name)
  name_stays t s None n = refl
  name_stays t s (Some q) n = refl

  numbers_stay : (t : LiteralTypes) → back to (numbers_in (λ s. s) f t) ≡ numbers_in to f t
  numbers_stay t = λ v. record { named = λ s q n. name_stays t s q n v; types = t.types.items }

  -- a tree whose nodes stand where another has them
  decl_stays : (t : LiteralTypes) (d : Decl S)
      → first_told (shadowed_part (λ s. s) f g at) (parts_of (decl_with to d)) (flags_of (numbers_in (λ s. s) f t) (decl_with to d))
      ≡ first_told (shadowed_part to f g at) (parts_of d) (flags_of (numbers_in to f t) d)
  decl_stays t d =
      ap (λ (cs : List (Candidate Span)). first_told (shadowed_part (λ s. s) f g at) cs (flags_of (numbers_in (λ s. s) f t) (decl_with to d))) (after_decl-stays to d [])
      ∙ ap (λ (ms : Flags). first_told (shadowed_part (λ s. s) f g at) (map (candidate_with to) (parts_of d)) ms) (flags_stay to (numbers_in (λ s. s) f t) d)
      ∙ ap (λ (ts : TypeNumbers S). first_told (shadowed_part (λ s. s) f g at) (map (candidate_with to) (parts_of d)) (flags_of ts d)) (numbers_stay t)
      ∙ first_stays (parts_of d) (flags_of (numbers_in to f t) d)

-- ---- all parts

pub joined : (ps : List (Package At)) (w use_ : Where At) (p : Place At) (scopes : TypeScopes) (u : UsePlace) (i : ℕ) (d : Decl At) → IsToldUse ps w use_ p scopes u i d
    → first_told (shadowed_part (λ s. s) (names_in scopes.file) (names_in u.file) u.at) (parts_of (decl_with here_of d)) (flags_of (numbers_in (λ s. s) (names_in scopes.file) scopes.types.now) (decl_with here_of d))
    ≡ first_answer (shadowed_here ps w use_ p) (decl_seen ps w.number w.of w.source.tree d)
joined ps w use_ p scopes u i d k =
    let f : Names = names_in scopes.file in
    let g : Names = names_in u.file in
    let agrees = places_mean At here_of ps w k.knows.text k.knows.names f.table i d k.knows.reads k.knows.told k.knows.table k.nth k.scoped in
    let local = blocks_local At here_of ps w k.knows.text i d k.knows.reads k.nth k.scoped in
    let along = flags_follow ps (numbers_in here_of f scopes.types.now) w.number w.of w.source.tree d k.keyed k.fields in
    decl_stays here_of f g u.at scopes.types.now d
    ∙ sym (firsts_are (shadowed_part here_of f g u.at) (shadowed_here ps w use_ p) along refl
    (all_are ps w use_ f g k.knows k.named k.knows_there k.named_there p u.at k.agrees (decl_seen ps w.number w.of w.source.tree d) agrees local))
