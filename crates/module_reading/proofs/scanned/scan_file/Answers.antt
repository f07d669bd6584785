use Rattle.std.proofs.Common.{refl}
use Rattle.module_reading.proofs.ScanLemmas.{invalid, stopped}
use Rattle.module_reading.proofs.scanned.scan_file.Goals as goal

pub returns-in-Err-NotUtf8-clause-refused : goal.returns-in-Err-NotUtf8-clause-refused
returns-in-Err-NotUtf8-clause-refused c =
    (refl, tt, invalid c.args.file.now.bytes c.scan.result c.in-Err-NotUtf8.field-0 c.in-Err-NotUtf8.at _ c.in-Err-NotUtf8.is c.in-Err-NotUtf8.field-0-is c.in-Err-NotUtf8.at-is (rw c.items.ensures at c.scan.ensures.refused) (rw c.items.ensures at c.scan.ensures.none))

pub returns-in-Err-BadToken-clause-refused : goal.returns-in-Err-BadToken-clause-refused
returns-in-Err-BadToken-clause-refused c =
    (refl, tt, stopped c.args.file.now.bytes c.scan.result c.in-Err-BadToken.field-0 c.in-Err-BadToken.at _ c.in-Err-BadToken.is c.in-Err-BadToken.field-0-is c.in-Err-BadToken.at-is (rw c.items.ensures at c.scan.ensures.refused) (rw c.items.ensures at c.scan.ensures.none))
