use Rattle.std.proofs.Common.{◌∙◌, ap, refl}
use Rattle.programs.specs.Users.{is_user}
use Rattle.programs.proofs.UserLaws.{user_added}
use Rattle.programs.proofs.users.Users.add.Goals as goal

pub returns : goal.returns
returns c = λ k f.
    rw (← c.self.view_is)
    (ap (λ ks. is_user ks k f) c.in_ok-insert.ensures.keys
    ∙ user_added k f c.args.decl c.args.file c.self.inside.keys.keys (is_user c.self.inside.keys.keys c.args.decl c.args.file) refl)
