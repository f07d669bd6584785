use Rattle.std.proofs.Common.{◌≡◌, ◌∙◌, ap, sym, [], codes, map, string_bytes, true}
use Rattle.std.specs.Prelude.{unwrap_or}
use Rattle.clap.specs.Walk.{first_of, is_empty, rows_of}
use Rattle.clap.specs.Faults.{fault_of, is_simple_and_free}
use Rattle.clap.specs.Simple.{is_simple, matches_of}
use Rattle.clap.specs.Matches.{found_of}
use Rattle.clap.proofs.WalkLemmas.{first_value-rows}
use Rattle.command_words.specs.Words.{is_text}
use Rattle.command_words.proofs.Examples.{gofix_is_simple, gofix_is_free}
use Rattle.command_words.proofs.request.read_words.Goals as goal

pub returns-in-Ok-clause-read : goal.returns-in-Ok-clause-read
returns-in-Ok-clause-read c =
    let words = map string_bytes c.args.words.now in
    let app = c.in_ok-command.ensures in
    let none = c.in-Ok.ensures.kinds (ap is_simple_and_free app ∙ gofix_is_free) in
    let rows = (c.in-Ok.ensures.matches (ap is_simple app ∙ gofix_is_simple)).0 ∙ ap (λ a. matches_of a words) app in
    let fix = first_value-rows (found_of c.in-Ok.matches) (codes "fix") ∙ ap (first_of (codes "fix")) rows in
    let only = first_value-rows (found_of c.in-Ok.matches) (codes "only") ∙ ap (first_of (codes "only")) rows in
    record {
      accepted = ap is_empty (ap (λ a. fault_of a words) (sym app) ∙ none);
      fix = c.has_fix.ensures ∙ ap (is_text (codes "true")) fix;
      only = c.prefix.ensures ∙ ap (λ v. unwrap_or v []) only;
    }
