use Rattle.std.proofs.Common.{◌∙◌, ◌&&◌, ◌||◌, Bool, sym, ap}
use Rattle.directive_scan.proofs.line_flags.next_led.Goals as goal

pub returns-then-mark : goal.returns-then-mark
returns-then-mark c = c.if-mark.true ∙ sym (ap (λ (a : Bool). a && (c.args.mark || c.args.led)) c.if-lead.true ∙ ap (λ (a : Bool). a || c.args.led) c.if-mark.true)

pub returns-else-mark : goal.returns-else-mark
returns-else-mark c = sym (ap (λ (a : Bool). a && (c.args.mark || c.args.led)) c.if-lead.true ∙ ap (λ (a : Bool). a || c.args.led) c.if-mark.false)

pub returns-else-lead : goal.returns-else-lead
returns-else-lead c = c.if-lead.false ∙ sym (ap (λ (a : Bool). a && (c.args.mark || c.args.led)) c.if-lead.false)
