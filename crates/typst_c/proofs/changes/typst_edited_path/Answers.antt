use Rattle.std.proofs.Common.{◌≡◌, ℕ, Err, Option, Result, refl, subst, sym}
use Rattle.typst_c.specs.Calls.{Reads, status_of}
use Rattle.typst_session.specs.Changes.{WritesPath}
use Rattle.typst_session.specs.Texts.{Output}
use Rattle.typst_session.specs.declared.refusal.Refusal.{Refusal}
use Rattle.typst_session.specs.declared.session.Session.{Session}
use Rattle.typst_c.proofs.changes.typst_edited_path.Goals as goal

pub returns-in-Err-clause-read : goal.returns-in-Err-clause-read
returns-in-Err-clause-read c =
    let buffer : Output ℕ = record { items = c.args.out.now; len = c.args.length.now.len } in
    let e = c.in-Err.ensures.err in
    subst
    (λ (v : Option Session). Reads ((c.args.out.now ≡ c.args.out.now) × (c.args.length.now.len ≡ c.args.length.now.len))
    (λ s. (outcome : Result (Unit {0}) Refusal) × (c.code.result ≡ status_of outcome) × WritesPath s buffer buffer outcome) v c.code.result)
    (sym c.in-Some.ensures.lent)
    (Err c.in-Err.refusal, c.code.ensures, subst (λ (r : Refusal). WritesPath c.in-Some.session.now buffer buffer (Err r)) (sym e.0) (e.1, refl))
