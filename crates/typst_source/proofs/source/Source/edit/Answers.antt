use Rattle.std.proofs.Common.{◌≡◌, ◌∙◌, ◌+◌, length, sym, ap, subst}
use Rattle.std.proofs.lemmas.Str.{IsUtf8-string_bytes}
use Rattle.std.specs.List.{replace_range}
use Rattle.std.specs.Prelude.{string_bytes, slice_range}
use Rattle.std.specs.Str.{IsCharBoundary}
use Rattle.typst_node.specs.Text.{text}
use Rattle.typst_source.specs.Source.{IsParsed}
use Rattle.typst_source.proofs.Edits.{fits_of, new_start, restored}
use Rattle.typst_source.proofs.source.Source.edit.Goals as goal

pub put_back-requires-clause-start : goal.put_back-requires-clause-start
put_back-requires-clause-start g c =
    subst (λ s. IsCharBoundary s c.args.range.start) (sym c.in_ok-gone.ensures.put)
    (new_start (string_bytes c.self.inside.content) c.args.with.now c.args.range (fits_of (text c.args.self.now) (string_bytes c.self.inside.content) c.args.range (ap text (sym c.self.view_is) ∙ sym c.self.invariant.0) c.requires.fits_ask_fits) (IsUtf8-string_bytes c.self.inside.content) c.utf8.with)

pub invariant_of-self-in-Err : goal.invariant_of-self-in-Err
invariant_of-self-in-Err g c =
    let old = string_bytes c.self.inside.content in
    let gone : c.deref.result.now ≡ slice_range old c.args.range.start c.args.range.end = c.deref.ensures ∙ c.in_ok-gone.ensures.gone in
    let back : string_bytes c.put_back.new.content ≡ old =
    c.put_back.ensures ∙ ap (λ s. replace_range s c.args.range.start (c.args.range.start + length c.args.with.now) c.deref.result.now) c.in_ok-gone.ensures.put
    ∙ restored old c.args.with.now c.args.range (fits_of (text c.args.self.now) (string_bytes c.self.inside.content) c.args.range (ap text (sym c.self.view_is) ∙ sym c.self.invariant.0) c.requires.fits_ask_fits) c.deref.result.now gone in (
      back ∙ c.self.invariant.0 ∙ ap text (sym c.in-Err.ensures.err_root),
      subst (λ es. IsParsed g.P.BlockParser.first es c.reparse.new.self.root) (sym c.in-Err.ensures.err_extents)
          (subst (λ t. IsParsed g.P.BlockParser.first c.self.inside.parsed.extents.items t) (sym c.in-Err.ensures.err_root) c.self.invariant.1),
    )
