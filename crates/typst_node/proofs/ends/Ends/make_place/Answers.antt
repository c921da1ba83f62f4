use Rattle.std.proofs.Common.{arith, ◌≡◌, ◌+◌, ◌-◌, ◌/◌, ◌%◌, ◌^◌, ◌∷◌, ◌<◌, ◌≤◌, ◌++◌, List, ℕ, length, take, drop, get_or, replicate, length-take, ap, sym, refl, ◌∙◌}
use Rattle.std.proofs.lemmas.Bool.{false≢true}
use Rattle.std.proofs.lemmas.List.{drop_all, length-append, length-replicate, take-append-le, take-take, with_items_is}
use Rattle.std.specs.Vec.{with_items}
use Rattle.typst_node.specs.Ends.{ends_seen, starts_in}
use Rattle.typst_node.specs.EndsLength.{length-ends_seen}
use Rattle.typst_node.proofs.Blocks.{place_before, place_behind, take-seen, where_ok}
use Rattle.typst_node.proofs.ends.Ends.make_place.Goals as goal

pub overflow_sub-blocks-2 : goal.overflow_sub-blocks-2
overflow_sub-blocks-2 c =
    omega (arith, length-ends_seen (0 ∷ starts_in c.self.inside.starts) 0 c.self.inside.within.items, ap length c.self.view_is, c.self.inside.within.ok, c.in_ok-reserve.ensures.len)

pub returns-in_err-grow-clause-succeeds : goal.returns-in_err-grow-clause-succeeds
returns-in_err-grow-clause-succeeds c fewer =
    absurd (false≢true (c.in_err-grow.ensures.succeeds (omega (arith, length-ends_seen (0 ∷ starts_in c.self.inside.starts) 0 c.self.inside.within.items, ap length c.self.view_is, c.self.invariant.1, c.self.inside.within.ok, c.in_ok-reserve.ensures.len))))

pub make_place-requires-clause-inside : goal.make_place-requires-clause-inside
make_place-requires-clause-inside c =
    omega (arith, length-ends_seen (0 ∷ starts_in c.self.inside.starts) 0 c.self.inside.within.items, ap length c.self.view_is, c.self.inside.within.ok, c.in_ok-reserve.ensures.len)

pub overflow_add-from-2 : goal.overflow_add-from-2
overflow_add-from-2 c =
    omega (arith, length-ends_seen (0 ∷ starts_in c.self.inside.starts) 0 c.self.inside.within.items, ap length c.self.view_is, c.self.inside.within.ok, c.in_ok-reserve.ensures.len, c.make_place.new.items.ok, c.make_place.ensures.len, c.make_place.new.items.small)

pub recount-requires-clause-inside : goal.recount-requires-clause-inside
recount-requires-clause-inside c =
    omega (arith, length-ends_seen (0 ∷ starts_in c.self.inside.starts) 0 c.self.inside.within.items, ap length c.self.view_is, c.self.inside.within.ok, c.in_ok-reserve.ensures.len, c.make_place.new.items.ok, c.make_place.ensures.len, ap length c.deref_mut.ensures.value)

pub recount-requires-clause-then : goal.recount-requires-clause-then
recount-requires-clause-then c =
    let starts = starts_in c.self.inside.starts in
    let blocks : ℕ = (c.len-count.result - (c.args.to - c.args.from) + c.args.many) / 256 in
    let grown : length (starts_in c.grow.new.starts) ≡ length starts + (blocks - length starts) =
    ap length c.in_ok-grow.ensures.ok ∙ (length-append starts (replicate (blocks - length starts) 0) ∙ ap (λ n. length starts + n) (length-replicate {A = ℕ} (blocks - length starts) 0)) in
    omega (arith, c.self.invariant.1, grown, length-ends_seen (0 ∷ starts_in c.self.inside.starts) 0 c.self.inside.within.items, ap length c.self.view_is, c.self.inside.within.ok, c.in_ok-reserve.ensures.len, c.make_place.new.items.ok, c.make_place.ensures.len, ap length c.deref_mut.ensures.value)

pub invariant_of-self-2 : goal.invariant_of-self-2
invariant_of-self-2 c =
    let starts = starts_in c.self.inside.starts in
    let blocks : ℕ = (c.len-count.result - (c.args.to - c.args.from) + c.args.many) / 256 in
    let ends = length-ends_seen (0 ∷ starts) 0 c.self.inside.within.items in
    let grown : length (starts_in c.grow.new.starts) ≡ length starts + (blocks - length starts) =
    ap length c.in_ok-grow.ensures.ok ∙ (length-append starts (replicate (blocks - length starts) 0) ∙ ap (λ n. length starts + n) (length-replicate {A = ℕ} (blocks - length starts) 0)) in
    let held = with_items_is c.make_place.new.items c.recount.new.within (omega (arith, c.make_place.new.items.ok, c.recount.auto.within, ap length c.deref_mut.ensures.value)) in (
      c.keep.ensures.tight,
      ap length c.keep.ensures.is
          ∙ omega (
            arith,
            length-take blocks (starts_in c.grow.new.starts),
            grown,
            ends,
            ap length c.self.view_is,
            c.self.inside.within.ok,
            c.in_ok-reserve.ensures.len,
            c.make_place.new.items.ok,
            c.make_place.ensures.len,
            c.recount.auto.within,
            ap length c.deref_mut.ensures.value,
            ap length held,
          ),
    )

pub returns : goal.returns
returns c =
    let starts = starts_in c.self.inside.starts in
    let within = c.self.inside.within.items in
    let placed = c.make_place.new.items.items in
    let after = c.recount.new.within in
    let behind : ℕ = c.args.from + c.args.many in
    let blocks : ℕ = (c.len-count.result - (c.args.to - c.args.from) + c.args.many) / 256 in
    let n : ℕ = blocks - length starts in
    let many_ends : length within ≡ length c.args.self.now = sym (length-ends_seen (0 ∷ starts) 0 within) ∙ ap length c.self.view_is in
    let was = c.in_ok-reserve.ensures.items in
    let put : c.deref_mut.result.now ≡ placed = c.deref_mut.ensures.value in
    let grown : starts_in c.grow.new.starts ≡ starts ++ replicate n 0 = c.in_ok-grow.ensures.ok in
    let moved : length placed + (c.args.to - c.args.from) ≡ length within + c.args.many =
    omega (arith, c.make_place.new.items.ok, c.make_place.ensures.len, c.in_ok-reserve.ensures.len, c.self.inside.within.ok, ap length was) in
    let in_all : length after ≡ length placed = omega (arith, c.recount.auto.within, ap length put) in
    let kept_in : List ℕ = (with_items c.make_place.new.items after).items in
    let kept_is : kept_in ≡ after = with_items_is c.make_place.new.items after (omega (arith, c.make_place.new.items.ok, in_all)) in
    let front : (k : ℕ) → k < behind → get_or after k 0 ≡ get_or placed k 0 = λ k h. c.recount.ensures.before k h ∙ ap (λ (xs : List ℕ). get_or xs k 0) put in
    let recounted : (k : ℕ) → behind ≤ k → k < length placed
    → (get_or (0 ∷ (starts ++ replicate n 0)) (k / 256) 0 + get_or after k 0) % 2 ^ 32
    ≡ (get_or (0 ∷ (starts ++ replicate n 0)) ((k - behind + c.args.to) / 256) 0 + get_or placed k 0) % 2 ^ 32 =
    λ k a b. ap (λ (xs : List ℕ). (get_or (0 ∷ xs) (k / 256) 0 + get_or after k 0) % 2 ^ 32) (sym grown)
    ∙ (c.recount.ensures.behind k a (omega (arith, ap length put))
    ∙ (λ i. (get_or (0 ∷ grown i) ((k - behind + c.args.to) / 256) 0 + get_or (put i) k 0) % 2 ^ 32)) in
    let now : ends_seen (0 ∷ starts_in c.keep.new.starts) 0 kept_in ≡ ends_seen (0 ∷ take blocks (starts ++ replicate n 0)) 0 after =
    (λ i. ends_seen (0 ∷ (c.keep.ensures.is ∙ ap (take blocks) grown) i) 0 (kept_is i)) in
    let inside : c.args.to ≤ length within = omega (arith, many_ends) in
    let enough : length after / 256 ≤ blocks = omega (arith, in_all, moved, c.in_ok-reserve.ensures.len, c.self.inside.within.ok) in
    let before = c.make_place.ensures.before ∙ ap (take c.args.from) was in
    let rest = c.make_place.ensures.behind ∙ ap (drop c.args.to) was in
    record {
      len = omega (arith, length-ends_seen (0 ∷ starts_in c.keep.new.starts) 0 kept_in, ap length kept_is, in_all, moved, many_ends);
      before = ap (take c.args.from) now
          ∙ (place_before starts within placed after c.args.from c.args.to c.args.many n blocks c.requires.window inside moved in_all enough before rest front recounted ∙ ap (take c.args.from) c.self.view_is);
      behind = ap (drop behind) now
          ∙ (place_behind starts within placed after c.args.from c.args.to c.args.many n blocks c.requires.window inside moved in_all enough before rest front recounted ∙ ap (drop c.args.to) c.self.view_is);
      err = tt;
      stay = λ same. absurd (c.if-many-to.false same);
      succeeds = λ fewer. refl;
    }

pub returns-then-blocks-count-clause-len : goal.returns-then-blocks-count-clause-len
returns-then-blocks-count-clause-len c =
    let starts : List ℕ = 0 ∷ starts_in c.self.inside.starts in
    let room : c.args.from + c.args.many ≤ c.reserve.new.self.cap = omega (arith, c.in_ok-reserve.ensures.len, c.in_ok-reserve.ensures.ok) in
    let count = c.resize.ensures.len ∙ where_ok c.resize.result (c.args.from + c.args.many) c.reserve.new.self.len (c.resize.ensures.succeeds room) in
    omega (
      arith,
      count,
      length-ends_seen starts 0 c.resize.new.self.items,
      length-ends_seen starts 0 c.self.inside.within.items,
      ap length c.self.view_is,
      c.self.inside.within.ok,
      c.in_ok-reserve.ensures.len,
      c.resize.new.self.ok,
    )

pub returns-then-blocks-count-clause-before : goal.returns-then-blocks-count-clause-before
returns-then-blocks-count-clause-before c =
    let starts : List ℕ = 0 ∷ starts_in c.self.inside.starts in
    let within = c.self.inside.within.items in
    let left = c.reserve.new.self in
    let n : ℕ = c.args.from + c.args.many in
    let more : List ℕ = replicate (n - left.len) 0 in
    let room : n ≤ left.cap = omega (arith, c.in_ok-reserve.ensures.len, c.in_ok-reserve.ensures.ok) in
    let made : c.resize.new.self.items ≡ take n within ++ more =
    c.resize.ensures.items ∙ (where_ok c.resize.result (take n left.items ++ more) left.items (c.resize.ensures.succeeds room) ∙ ap (λ (xs : List ℕ). take n xs ++ more) c.in_ok-reserve.ensures.items) in
    let inside : c.args.from ≤ length (take n within) =
    omega (arith, length-take n within, length-ends_seen starts 0 within, ap length c.self.view_is) in
    let kept : take c.args.from c.resize.new.self.items ≡ take c.args.from within =
    ap (take c.args.from) made ∙ (take-append-le c.args.from (take n within) more inside ∙ take-take c.args.from n within (omega arith)) in
    take-seen starts 0 c.args.from c.resize.new.self.items
    ∙ (ap (ends_seen starts 0) kept ∙ (sym (take-seen starts 0 c.args.from within) ∙ ap (take c.args.from) c.self.view_is))

pub returns-then-blocks-count-clause-behind : goal.returns-then-blocks-count-clause-behind
returns-then-blocks-count-clause-behind c =
    let starts : List ℕ = 0 ∷ starts_in c.self.inside.starts in
    let room : c.args.from + c.args.many ≤ c.reserve.new.self.cap = omega (arith, c.in_ok-reserve.ensures.len, c.in_ok-reserve.ensures.ok) in
    let count = c.resize.ensures.len ∙ where_ok c.resize.result (c.args.from + c.args.many) c.reserve.new.self.len (c.resize.ensures.succeeds room) in
    let new : List ℕ = ends_seen starts 0 c.resize.new.self.items in
    drop_all (c.args.from + c.args.many) new (omega (arith, count, length-ends_seen starts 0 c.resize.new.self.items, c.resize.new.self.ok))
    ∙ sym (drop_all c.args.to c.args.self.now (omega (arith, length-ends_seen starts 0 c.self.inside.within.items, ap length c.self.view_is, c.self.inside.within.ok, c.in_ok-reserve.ensures.len)))
