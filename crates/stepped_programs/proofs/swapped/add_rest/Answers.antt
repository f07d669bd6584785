use Rattle.std.proofs.Common.{◌∙◌, ◌+◌, sym, ap, List, Option, Some, ◌++◌, drop, append_assoc}
use Rattle.go_tree.specs.declared.spans.Span.{Span}
use Rattle.stepped_programs.specs.SwappedOrigins.{from_use}
use Rattle.stepped_programs.proofs.SearchedSites.KeptPrograms.Kept.{got}
use Rattle.stepped_programs.proofs.Rests.{no_rest, whole_rest}
use Rattle.stepped_programs.proofs.swapped.add_rest.Goals as goal

pub returns-in_default : goal.returns-in_default
returns-in_default c = no_rest c.args.qualified c.args.spans.now.items c.args.origins.now c.args.number c.in_default.ensures.lookup.3

pub returns : goal.returns
returns c =
    let xs = c.args.spans.now.items in
    let q = c.args.qualified in
    let ys = drop (c.args.number + 1) c.args.origins.now in
    c.in_ok-extend_from_slice.ensures.items ∙ ap (λ (zs : List Span). c.add_name.new.spans.items ++ zs) (whole_rest c.args.origins.now (c.args.number + 1)) ∙ ap (λ (zs : List Span). zs ++ ys) c.in_ok-add_name.ensures ∙ append_assoc xs (from_use q (Some c.in-Some.origin.now)) ys
    ∙ ap (λ (r : Option Span). xs ++ (from_use q r ++ ys))
    (ap (λ (o : Span). Some o) c.in-Some.ensures.lookup.1 ∙ sym (got c.args.origins.now c.args.number c.in-Some.origin.now c.in-Some.ensures.lookup.3.0))
