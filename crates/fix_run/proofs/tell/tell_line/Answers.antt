use Rattle.fix_run.proofs.tell.tell_line.Goals as goal

pub returns-in-ReadFault-clause-ok : goal.returns-in-ReadFault-clause-ok
returns-in-ReadFault-clause-ok g c = rw (c.in-ReadFault.is, ← c.path.ensures) c.tell_file.ensures.ok

pub returns-in-ReadFault-clause-err : goal.returns-in-ReadFault-clause-err
returns-in-ReadFault-clause-err g c = rw (c.in-ReadFault.is, ← c.path.ensures) c.tell_file.ensures.err

pub returns-in-WriteFault-clause-ok : goal.returns-in-WriteFault-clause-ok
returns-in-WriteFault-clause-ok g c = rw (c.in-WriteFault.is, ← c.path-in-WriteFault.ensures) c.tell_file-in-WriteFault.ensures.ok

pub returns-in-WriteFault-clause-err : goal.returns-in-WriteFault-clause-err
returns-in-WriteFault-clause-err g c = rw (c.in-WriteFault.is, ← c.path-in-WriteFault.ensures) c.tell_file-in-WriteFault.ensures.err

pub returns-in-Refused-clause-ok : goal.returns-in-Refused-clause-ok
returns-in-Refused-clause-ok g c = rw c.in-Refused.is c.tell_refusal.ensures.ok

pub returns-in-Refused-clause-err : goal.returns-in-Refused-clause-err
returns-in-Refused-clause-err g c = rw c.in-Refused.is c.tell_refusal.ensures.err
