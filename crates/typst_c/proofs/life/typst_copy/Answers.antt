use Rattle.std.proofs.Common.{◌≡◌, Err, Option, Result, refl, subst, sym}
use Rattle.typst_c.specs.Calls.{Reads}
use Rattle.typst_c.specs.Told.{TellsCopy}
use Rattle.typst_session.specs.Sessions.{Copies}
use Rattle.typst_session.specs.declared.refusal.Refusal.{Refusal}
use Rattle.typst_session.specs.declared.refusal.Refusal.TheVariants.{Memory}
use Rattle.typst_session.specs.declared.session.Session.{Session}
use Rattle.typst_c.proofs.life.typst_copy.Goals as goal

pub returns-clause-read : goal.returns-clause-read
returns-clause-read c =
    let old : Option Session = c.args.copy.now.at.value in
    subst
    (λ (v : Option Session). Reads (old ≡ old) (λ s. (outcome : Result Session Refusal) × TellsCopy old old c.code-in-Err-new.result outcome × Copies s outcome) v c.code-in-Err-new.result)
    (sym c.in-Some.ensures.lent) (Err Memory, (c.code-in-Err-new.ensures, refl), tt)
