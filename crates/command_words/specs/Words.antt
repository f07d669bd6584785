-- The words after the program's name, as clap takes them (its documentation, Arg: an option that takes a value has it
-- as the next word or behind `=`; none may stand twice; `--` ends the options).
use Rattle.std.specs.Prelude.{◌≡◌, Bool, true, false, List, [], Option, Some, None, codes, bytes_eq, unwrap_or}
use Rattle.clap.specs.Simple.{App, Shape, matches_of, new_app, new_rule, on_top, with_rule}
use Rattle.clap.specs.Walk.{Rule, Text, first_of, is_empty}
use Rattle.clap.specs.Faults.{fault_of}
use Rattle.clap.specs.declared.builder.action.ArgAction.TheVariants.{Set, SetTrue}
use Rattle.command_words.specs.declared.request.Request.{Request}

-- the option `--fix`
abbrev pub fix_rule : Rule
fix_rule = record (new_rule (codes "fix")) { long = Some (codes "fix"); action = Some SetTrue }

-- the option `--only PREFIX`
abbrev pub only_rule : Rule
only_rule = record (new_rule (codes "only")) { long = Some (codes "only"); action = Some Set }

-- the command `gofix`, whose words are those after its name
abbrev pub gofix : App
gofix = with_rule (with_rule (on_top (λ s. record s { no_binary_name = true }) (new_app (codes "gofix"))) fix_rule)
    only_rule

-- clap finds no fault in the words
abbrev pub are_accepted : List Text → Bool
are_accepted words = is_empty (fault_of gofix words)

-- the text is there, and is this one
abbrev pub is_text : Text → Option Text → Bool
is_text text None = false
is_text text (Some t) = bytes_eq t text

-- `--fix` stands among the words
abbrev pub has_fix : List Text → Bool
has_fix words = is_text (codes "true") (first_of (codes "fix") (matches_of gofix words))

-- the prefix of `--only`, or nothing
abbrev pub only_of : List Text → Text
only_of words = unwrap_or (first_of (codes "only") (matches_of gofix words)) []

-- The words are accepted, and this is what they ask for.
pub record IsRequest (words : List Text) (r : Request) : Type 0 where
  pub accepted : are_accepted words ≡ true
  pub fix : r.fix ≡ has_fix words
  pub only : r.only.now ≡ only_of words
