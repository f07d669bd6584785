use Rattle.programs.proofs.users.Users.has.Goals as goal

pub returns : goal.returns
returns c = rw (← c.self.view_is) c.contains.ensures
