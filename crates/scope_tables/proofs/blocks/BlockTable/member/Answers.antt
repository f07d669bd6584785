use Rattle.std.proofs.Common.{◌∙◌, ℕ, List, Some, None, sym, ap, position, slice_get, bytes_eq}
use Rattle.scope_tables.specs.declared.rows.Row.{Row}
use Rattle.scope_tables.specs.Table.{part_of}
use Rattle.scope_tables.proofs.RowLaws.{by_number}
use Rattle.scope_tables.proofs.blocks.BlockTable.member.Goals as goal

pub returns-in-None : goal.returns-in-None
returns-in-None c = by_number (λ (r : Row). r.outside) None c.args.self.now.rows.names c.args.self.now.rows.rows.items c.args.name.now None (sym c.in-None.is ∙ (c.number.ensures ∙ ap (λ (n : List ℕ). position (bytes_eq n) c.args.self.now.rows.names) c.items.ensures))

pub returns-in-Some : goal.returns-in-Some
returns-in-Some c =
    c.outside_at.ensures ∙ ap (λ (rs : List Row). (part_of (λ (r : Row). r.outside) None (slice_get rs c.in-Some.number))) c.as_slice.ensures.value
    ∙ by_number (λ (r : Row). r.outside) None c.args.self.now.rows.names c.args.self.now.rows.rows.items c.args.name.now (Some c.in-Some.number) (sym c.in-Some.is ∙ (c.number.ensures ∙ ap (λ (n : List ℕ). position (bytes_eq n) c.args.self.now.rows.names) c.items.ensures))
