-- The laws of the first block.
use Rattle.std.proofs.Common.{◌≡◌, ℕ, zero, suc, ◌+◌, ◌≤◌, ◌<◌, Bool, true, false, cond, List, [], ◌∷◌, length, take, drop, nat_le, refl, sym, ap, ◌∙◌, arith}
use Rattle.std.proofs.lemmas.Bool.Decides.{nat_tests}
use Rattle.std.proofs.lemmas.List.{length-take}
use Rattle.std.specs.Str.{IsCharBoundary, IsUtf8}
use Rattle.typst_node.specs.Text.{text_of_all}
use Rattle.typst_node.specs.Tree.{Tree}
use Rattle.typst_node.specs.Depth.{AreWithin}
use Rattle.typst_parser.specs.Events.{bytes, bytes_of, CanBeCut}
use Rattle.typst_parser.specs.FirstBlock.{at_end, block_of, first_block}
use Rattle.typst_parser.specs.Frames.{is_looking}
use Rattle.typst_parser.specs.Growth.{grown_onto, with_event}
use Rattle.typst_parser.specs.Rows.{Table}
use Rattle.typst_parser.specs.Stack.{Stack, start}
use Rattle.typst_parser.specs.Steps.{steps}
use Rattle.typst_parser.specs.declared.event.Event.{Event}
use Rattle.typst_lexer.proofs.Runs.{take_less}
use Rattle.typst_parser.proofs.Cutting.{IsCut, start_cut, steps_cut}
use Rattle.typst_parser.proofs.Good.{IsGood}
use Rattle.typst_parser.proofs.Growing.{grown_text, grown_within}
use Rattle.typst_parser.proofs.Local.{later, steps_local}
use Rattle.typst_parser.proofs.Placing.{some_steps_done, start_good, steps_good}
use Rattle.typst_parser.proofs.Rising.{IsHigh, start_high, steps_high}
use Rattle.typst_parser.proofs.Tops.{greatest_levels}

end_good : (t : Table) (text : List ℕ) → IsGood 0 text (at_end t text)
end_good t text = steps_good 0 (length text + 1) t text (start t.most_deep) (start_good text t.most_deep)

one_more : (n : ℕ) → n + 1 ≡ suc n
one_more n = omega arith

end_done : (t : Table) (text : List ℕ) → is_looking (at_end t text).phase ≡ false
end_done t text =
    ap (λ n. is_looking (steps n t text (start t.most_deep)).phase) (one_more (length text))
    ∙ some_steps_done (length text) t text (start t.most_deep)

end_bytes : (t : Table) (text : List ℕ) → bytes (at_end t text).events ≡ (at_end t text).from.at
end_bytes t text =
    let s : Stack = at_end t text in
    let g : IsGood 0 text s = end_good t text in
    g.ends ∙ by s.next.is_flushed (g.rest (end_done t text))
  where
    by : (b : Bool) → (at_end t text).next.place.at ≡ (at_end t text).from.at → cond b (at_end t text).next.place.at (at_end t text).from.at ≡ (at_end t text).from.at
    by true e = e
    by false e = refl

pub block_within : (t : Table) (text : List ℕ) → (first_block t text).len ≤ length text
block_within t text = let g : IsGood 0 text (at_end t text) = end_good t text in omega (arith, g.order, g.within)

pub block_positive : (t : Table) (text : List ℕ) → 0 < length text → 0 < (first_block t text).len
block_positive t text some = (end_good t text).some (end_done t text) some

pub block_looked : (t : Table) (text : List ℕ) → (first_block t text).len ≤ (first_block t text).reach
block_looked t text = let g : IsGood 0 text (at_end t text) = end_good t text in omega (arith, g.order, g.looked)

pub block_text : (t : Table) (text : List ℕ) → text_of_all (first_block t text).trees ≡ take (first_block t text).len text
block_text t text = grown_text text (at_end t text).events ∙ ap (λ n. take n text) (end_bytes t text)

end_cut : (t : Table) (text : List ℕ) → IsUtf8 text → IsCut text (at_end t text)
end_cut t text utf8 = steps_cut 0 text utf8 (length text + 1) t (start t.most_deep) (start_good text t.most_deep) (start_cut text t.most_deep utf8)

pub block_boundary : (t : Table) (text : List ℕ) → IsUtf8 text → IsCharBoundary text (first_block t text).len
block_boundary t text utf8 = (end_cut t text utf8).behind

pub block_cut : (t : Table) (text : List ℕ) → IsUtf8 text → CanBeCut text (at_end t text).events
block_cut t text utf8 = (end_cut t text utf8).made

pub block_levels : (t : Table) (text : List ℕ) → 2 ≤ t.most_levels → AreWithin t.most_levels (first_block t text).trees
block_levels t text two =
    let high : IsHigh t.most_levels (at_end t text) = steps_high (length text + 1) t text (start t.most_deep) two (start_high t.most_levels t.most_deep) in
    grown_within t.most_levels text (at_end t text).events (omega (arith, high.all, greatest_levels (at_end t text).events))

-- trees take only so many bytes from the text as their events have
grown_local : (ts : List Tree) (es : List Event) (text other : List ℕ) → take (bytes es) text ≡ take (bytes es) other → grown_onto ts text es ≡ grown_onto ts other es
grown_local ts [] text other same = refl
grown_local ts (e ∷ es) text other same =
    let front : take (bytes_of e) text ≡ take (bytes_of e) other = take_less (bytes_of e) (bytes_of e + bytes es) text other (omega arith) same in
    ap (λ (bs : List ℕ). grown_onto (with_event e bs ts) (drop (bytes_of e) text) es) front
    ∙ grown_local (with_event e (take (bytes_of e) other) ts) es (drop (bytes_of e) text) (drop (bytes_of e) other) (later (bytes_of e) (bytes es) text other same)

-- a text whose end was looked at is the whole text
whole : (n : ℕ) (text other : List ℕ) → length text < n → take n text ≡ take n other → text ≡ other
whole n text other past same =
    let short : length other < n = omega (arith, past, ap length same, length-take n text, length-take n other) in
    sym (all n text past) ∙ same ∙ all n other short
  where
    all : (n : ℕ) (xs : List ℕ) → length xs < n → take n xs ≡ xs
    all zero xs h = absurd (omega (arith, h))
    all (suc n) [] h = refl
    all (suc n) (x ∷ xs) h = ap (λ ys. x ∷ ys) (all n xs (omega (arith, h)))

pub block_local : (t : Table) (text other : List ℕ) → take (first_block t text).reach text ≡ take (first_block t text).reach other → first_block t text ≡ first_block t other
block_local t text other same = by (nat_le (at_end t text).far (length text)) refl
  where
    past_from_test : (n m : ℕ) → nat_le n m ≡ false → m < n
    past_from_test n m h = grind (arith, nat_tests)

    within_from_test : (n m : ℕ) → nat_le n m ≡ true → n ≤ m
    within_from_test n m h = grind (arith, nat_tests)

    by : (b : Bool) → nat_le (at_end t text).far (length text) ≡ b → first_block t text ≡ first_block t other
    by false e = ap (first_block t) (whole (at_end t text).far text other (past_from_test (at_end t text).far (length text) e) same)
    by true e =
        let s : Stack = at_end t text in
        let inside : s.far ≤ length text = within_from_test s.far (length text) e in
        let g : IsGood 0 text s = end_good t text in
        let there : s ≡ at_end t other =
        steps_local s.far text other same inside 0 (length text + 1) (length other + 1) t (start t.most_deep) (start_good text t.most_deep) (omega arith) (omega arith) (omega arith) in
        let front : take (bytes s.events) text ≡ take (bytes s.events) other =
        take_less (bytes s.events) s.far text other (omega (arith, end_bytes t text, g.order, g.looked)) same in
        (λ i. record { len = s.from.at; reach = s.far; trees = grown_local [] s.events text other front i })
        ∙ ap (block_of other) there
