use Rattle.std.proofs.Common.{◌∙◌, ap, length, refl, subst}
use Rattle.typst_language.specs.Block.{first}
use Rattle.typst_source.specs.Edited.{IsEdited}
use Rattle.typst_session.proofs.session.Session.edit.Goals as goal

pub returns : goal.returns
returns c =
    let with = c.in_ok-with.ensures.ok in
    record {
      utf8 = with.1;
      document = c.in-Document.document;
      after = c.edit.new.self;
      done = c.in_ok-done.done;
      was = c.in-Document.is;
      edited = subst (λ w. IsEdited first c.in-Document.document.tree c.args.range w c.in_ok-done.done c.edit.new.self.tree) with.0 c.in_ok-done.ensures.edited;
      ends = c.in_ok-done.ensures.ends;
      reparsed = refl;
      change = record { depth = c.len.ensures ∙ c.in_ok-done.done.path.ok.0; touched_is = refl; moved = ap length c.moved.ensures.before };
      holds = record { stack = refl; held = refl; last = refl };
    }
