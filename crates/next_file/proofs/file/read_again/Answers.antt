use Rattle.next_file.proofs.Unread.{unread}
use Rattle.next_file.proofs.file.read_again.Goals as goal

pub returns-in-Err-clause-refused : goal.returns-in-Err-clause-refused
returns-in-Err-clause-refused c =
    unread c.args.text.items c.in-Err.error c.fault_of.result c.fault_of.ensures (rw c.deref.ensures.value at c.in-Err.ensures.refused)
