use Rattle.std.proofs.Common.{◌∷◌, ◌++◌, [], ◌≢◌, refl, subst}
use Rattle.std.proofs.iter.Next.{Yields-more}
use Rattle.std.specs.Iterator.{Yields}
use Rattle.typst_base.specs.Span.{detached}
use Rattle.typst_base.proofs.SpanLemmas.{first_attached-found, first_attached-more}
use Rattle.typst_base.proofs.span.Span.find.Goals as goal

pub returns-then-not-is_detached : goal.returns-then-not-is_detached
returns-then-not-is_detached g c =
    let steps = g.I.Iterator.next_gives in
    let seen = c.loop-span.yielded in
    let span = c.in-Some.span in
    let more = Yields-more steps c.into_iter-span-iterator.result seen c.loop-span.span-iterator span c.next.new.self c.loop-span.yielded_by c.in-Some.ensures.steps in
    let somewhere : span ≢ detached = λ e. let both = c.if-not-is_detached.ensures.1 e in cc in (
      seen ++ span ∷ [],
      (
        c.next.new.self,
        subst (λ s. Yields steps s (seen ++ span ∷ []) c.next.new.self) c.into_iter-span-iterator.ensures.into_iter_gives more,
        λ e. absurd (somewhere e),
      ),
      first_attached-found seen span c.loop-span.invariant.none somewhere,
    )

pub loop-span-preserved : goal.loop-span-preserved
loop-span-preserved g c = record {
  can = (c.in-Some.ensures.goes.on c.loop-span.invariant.ends).0;
  ends = (c.in-Some.ensures.goes.on c.loop-span.invariant.ends).1;
  none = first_attached-more c.loop-span.yielded c.in-Some.span c.loop-span.invariant.none (c.if-not-is_detached.ensures.0 refl);
}
