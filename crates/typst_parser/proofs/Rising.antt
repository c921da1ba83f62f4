-- What the machine keeps of levels: no tree has more than the table allows.
use Rattle.std.proofs.Common.{◌≡◌, ℕ, zero, suc, ◌+◌, ◌-◌, ◌≤◌, ◌<◌, min, ◌||◌, ◌==◌, nat_lt, Bool, true, false, cond, List, [], ◌∷◌, ◌++◌, length, take, drop, Option, Some, None, refl, sym, ap, subst, ◌∙◌, arith, length-append}
use Rattle.std.proofs.lemmas.Bool.Decides.{nat_tests}
use Rattle.std.specs.List.{slice_get}
use Rattle.typst_base.specs.declared.kind.SyntaxKind.{SyntaxKind}
use Rattle.typst_base.specs.declared.kind.SyntaxKind.TheVariants as kinds
use Rattle.typst_parser.specs.Actions.{act, acts, as_kind, as_unclosed, changed, covered, covered_by, delimited, expected_once, flushed, is_error_kind, joined, opened, rejoined, returned_by, surrounded, wrapped}
use Rattle.typst_parser.specs.Classes.{fault_of}
use Rattle.typst_parser.specs.Events.{greatest, is_leaf}
use Rattle.typst_parser.specs.Frames.{ended, events_end, grown, is_looking, is_taken, looking, placed, pushed, settled, settled_by}
use Rattle.typst_parser.specs.Last.{last_of}
use Rattle.typst_parser.proofs.Lasts.{last_was}
use Rattle.typst_parser.specs.Lists.{changed_at}
use Rattle.typst_parser.specs.Reads.{at_token, is_alike, is_read_in, is_settled, is_some_mode, is_white_at, known, mode_of_space, read, skipped, spaced, token_at, tokened, unspaced, whitened}
use Rattle.typst_parser.specs.Mistakes.{mistaken}
use Rattle.typst_parser.specs.Retag.{retagged}
use Rattle.typst_parser.specs.Rows.{Table, is_last, is_stopped, lexer_mode, row_for, seen}
use Rattle.typst_parser.specs.Stack.{Stack, start}
use Rattle.typst_parser.specs.Steps.{after_row, between, called_if, eaten, followed, forgotten, is_between, is_over, is_too_deep, looked, looked_at, looked_by, looked_in, looks, put, refused, refused_as, step, steps, taken, taken_as, token_bytes}
use Rattle.typst_parser.specs.Tokens.{events_as, events_for, leaf_kind, plain_event}
use Rattle.typst_parser.specs.Unique.{made_unique}
use Rattle.typst_parser.specs.declared.event.Event.{Event}
use Rattle.typst_parser.specs.declared.event.Event.TheVariants.{Error, Leaf, Node}
use Rattle.typst_parser.specs.declared.fault.Fault.{Fault}
use Rattle.typst_parser.specs.declared.fault.Fault.TheVariants as faults
use Rattle.typst_parser.specs.declared.stack.Frame.{Frame}
use Rattle.typst_grammar.specs.Row.{Row}
use Rattle.typst_grammar.specs.declared.expectation.Expectation.{Expectation}
use Rattle.typst_grammar.specs.declared.row.Action.{Action}
use Rattle.typst_grammar.specs.declared.row.Action.TheVariants as actions
use Rattle.typst_grammar.specs.declared.row.Call.{Call}
use Rattle.typst_grammar.specs.declared.row.Mode.{Mode as RowMode}
use Rattle.typst_grammar.specs.declared.row.Take.{Take}
use Rattle.typst_grammar.specs.declared.row.Take.TheVariants as takes
use Rattle.typst_grammar.specs.declared.rows.Class.TheVariants.{End}
use Rattle.typst_grammar.specs.declared.rows.State.{State}
use Rattle.typst_lexer.specs.declared.head.FirstToken.{FirstToken}
use Rattle.typst_lexer.specs.declared.mode.Mode.{Mode}
use Rattle.typst_lexer.specs.declared.token.TokenKind.{TokenKind}
use Rattle.typst_lexer.specs.declared.token.TokenKind.TheVariants as tokens
use Rattle.typst_parser.proofs.Changes.{mistaken_low, raw_tops, retag_low, unique_low}
use Rattle.typst_parser.proofs.Links.{changed_past}
use Rattle.typst_parser.proofs.Walking.{last_split}
use Rattle.typst_parser.proofs.Tops.{Tall, all_join, all_ones, first_fewer, kind_tops, ones, tall_around, tall_cover, tall_join, tall_lower, tall_open, tall_push, tall_return, tall_top, tall_white, tops, tops_onto, tops-append, unclosed_tops}

pub record High (most : ℕ) (events white : List Event) (top : Frame) (below : List Frame) : Type 0 where
  pub all : greatest (tops events) ≤ most
  pub frames : Tall (tops events) below top.trees top.levels
  pub least : 2 ≤ top.levels
  pub leaves : (hs : List ℕ) → tops_onto hs white ≡ ones (length white) hs

abbrev pub IsHigh : ℕ → Stack → Type 0
IsHigh most s = High most s.events s.white s.top s.below

-- one more tree, of at most two levels
push_high : (most k : ℕ) (s : Stack) (es : List Event) → 2 ≤ most → k ≤ 2 → tops (s.events ++ es) ≡ k ∷ tops s.events → IsHigh most s
    → High most (s.events ++ es) s.white (grown 1 s.top) s.below
push_high most k s es two low is h = record {
  all = subst (λ (hs : List ℕ). greatest hs ≤ most) (sym is) (omega (arith, two, low, h.all));
  frames = subst (λ (hs : List ℕ). Tall hs s.below (grown 1 s.top).trees s.top.levels) (sym is)
      (tall_push k (tops s.events) s.below s.top.trees (grown 1 s.top).trees s.top.levels (omega (arith, low, h.least)) (omega arith) h.frames);
  least = h.least;
  leaves = h.leaves;
}

error_high : (most : ℕ) (s : Stack) (fault : Fault) (len : ℕ) → 2 ≤ most → IsHigh most s → IsHigh most (pushed (Error fault len) s)
error_high most s fault len two h = push_high most 1 s (Error fault len ∷ []) two (omega arith) (tops-append [] s.events (Error fault len ∷ [])) h

settled_by_high : (most : ℕ) (o : Option Expectation) (s : Stack) → 2 ≤ most → IsHigh most s → IsHigh most (settled_by o s)
settled_by_high most None s two h = h
settled_by_high most (Some what) s two h = error_high most s (faults.Expected what) 0 two h

settled_high : (most : ℕ) (s : Stack) → 2 ≤ most → IsHigh most s → IsHigh most (settled s)
settled_high most s two h = settled_by_high most s.missing s two h

past_from_test : (n m : ℕ) → nat_lt n m ≡ false → m ≤ n
past_from_test n m h = grind (arith, nat_tests)

lt_from_test : (n m : ℕ) → nat_lt n m ≡ true → n < m
lt_from_test n m h = grind (arith, nat_tests)

placed_high : (most : ℕ) (s : Stack) → 2 ≤ most → IsHigh most s → IsHigh most (placed s)
placed_high most s two h =
    let n : ℕ = length s.white in
    let hs : List ℕ = tops s.events in
    let is : tops (s.events ++ s.white) ≡ ones n hs = tops-append [] s.events s.white ∙ h.leaves hs in
    by (nat_lt s.judge (length s.below)) refl is
  where
    by : (b : Bool) → nat_lt s.judge (length s.below) ≡ b → tops (s.events ++ s.white) ≡ ones (length s.white) (tops s.events)
        → High most (s.events ++ s.white) [] (cond b s.top (grown (length s.white) s.top)) (changed_at (grown (length s.white)) s.judge s.below)
    by true e is = record {
      all = subst (λ (hs : List ℕ). greatest hs ≤ most) (sym is) (all_ones (length s.white) most (tops s.events) (omega (arith, two)) h.all);
      frames = subst (λ (hs : List ℕ). Tall hs (changed_at (grown (length s.white)) s.judge s.below) s.top.trees s.top.levels) (sym is)
          (tall_around (length s.white) s.judge (tops s.events) s.below s.top.trees s.top.levels (omega (arith, h.least)) h.frames);
      least = h.least;
      leaves = λ hs. refl;
    }
    by false e is = record {
      all = subst (λ (hs : List ℕ). greatest hs ≤ most) (sym is) (all_ones (length s.white) most (tops s.events) (omega (arith, two)) h.all);
      frames = subst (λ (hs : List ℕ). Tall hs (changed_at (grown (length s.white)) s.judge s.below) (grown (length s.white) s.top).trees s.top.levels) (sym is)
          (subst (λ (fs : List Frame). Tall (ones (length s.white) (tops s.events)) fs (grown (length s.white) s.top).trees s.top.levels)
          (changed_past (grown (length s.white)) s.below s.judge (past_from_test s.judge (length s.below) e))
          (tall_white (length s.white) (tops s.events) s.below s.top.trees (grown (length s.white) s.top).trees s.top.levels (omega (arith, h.least)) (omega arith) h.frames));
      least = h.least;
      leaves = λ hs. refl;
    }

flushed_high : (most : ℕ) (s : Stack) → 2 ≤ most → IsHigh most s → IsHigh most (flushed s)
flushed_high most s two h = placed_high most (settled s) two (settled_high most s two h)

ended_high : (most : ℕ) (s : Stack) → 2 ≤ most → IsHigh most s → IsHigh most (ended s)
ended_high most s two h = placed_high most (settled s) two (settled_high most s two h)

opened_high : (most : ℕ) (c : Call) (s : Stack) → IsHigh most s → IsHigh most (opened c s)
opened_high most c s h = record {
  all = h.all;
  frames = tall_open (tops s.events) s.below s.top h.frames;
  least = omega arith;
  leaves = h.leaves;
}

-- a frame opens around the last tree, if that is a leaf

covered_few : (o : Option Event) (trees : ℕ) → covered_by o trees ≤ trees
covered_few None trees = omega arith
covered_few (Some e) trees = elim (is_leaf e) as (λ b. cond b (min trees 1) 0 ≤ trees) [ true ↦ omega arith | false ↦ omega arith ]

covered_low : (es : List Event) (trees : ℕ) (o : Option Event) → slice_get es (length es - 1) ≡ o → greatest (take (covered_by o trees) (tops es)) ≤ 2
covered_low es trees None is = omega arith
covered_low es trees (Some (Error fault len)) is = omega arith
covered_low es trees (Some (Node kind children)) is = omega arith
covered_low es trees (Some (Leaf kind len)) is =
    let front : List Event = take (length es - 1) es in
    let hs : tops es ≡ 1 ∷ tops front = ap tops (last_split es (Leaf kind len) is) ∙ tops-append [] front (Leaf kind len ∷ []) in
    subst (λ (ks : List ℕ). greatest (take (min trees 1) ks) ≤ 2) (sym hs) (omega (arith, first_fewer (min trees 1) 1 (1 ∷ tops front) (omega arith)))

surrounded_high : (most : ℕ) (state : State) (number : ℕ) (s : Stack) → IsHigh most s → IsHigh most (surrounded state number s)
surrounded_high most state number s h = record {
  all = h.all;
  frames = tall_cover (covered s) (tops s.events) s.below (record s.top { state = state; trees = s.top.trees - covered s }) s.top.trees
      (covered_low s.events s.top.trees (slice_get s.events (length s.events - 1)) refl)
      (omega (arith, covered_few (slice_get s.events (length s.events - 1)) s.top.trees)) h.frames;
  least = omega arith;
  leaves = h.leaves;
}

returned_high : (most : ℕ) (o : Option (List Frame × Frame)) (s : Stack) → last_of s.below ≡ o → IsHigh most s → IsHigh most (returned_by o s)
returned_high most None s e h = h
returned_high most (Some p) s e h =
    let is : s.below ≡ p.0 ++ p.1 ∷ [] = last_was s.below p e in
    record {
      all = h.all;
      frames = tall_return (tops s.events) p.0 p.1 s.top.trees s.top.levels (rejoined s.top p.1).trees (omega arith)
          (subst (λ (fs : List Frame). Tall (tops s.events) fs s.top.trees s.top.levels) is h.frames);
      least = omega (arith, h.least);
      leaves = h.leaves;
    }

joined_high : (most : ℕ) (kind : SyntaxKind) (s : Stack) → s.top.levels < most → IsHigh most s → IsHigh most (joined kind s)
joined_high most kind s less h =
    let hs : List ℕ = tops s.events in
    let t : ℕ = s.top.trees in
    let is : tops (s.events ++ Node kind t ∷ []) ≡ suc (greatest (take t hs)) ∷ drop t hs = tops-append [] s.events (Node kind t ∷ []) in
    let low : greatest (take t hs) ≤ s.top.levels = tall_top hs s.below t s.top.levels h.frames in
    record {
      all = subst (λ (hs : List ℕ). greatest hs ≤ most) (sym is) (all_join t most s.top.levels hs low less h.all);
      frames = subst (λ (hs : List ℕ). Tall hs s.below 1 (suc s.top.levels)) (sym is) (tall_join hs s.below t s.top.levels low h.frames);
      least = omega (arith, h.least);
      leaves = h.leaves;
    }

wrapped_high : (most : ℕ) (kind : SyntaxKind) (s : Stack) → 2 ≤ most → IsHigh most s → IsHigh most (wrapped most kind s)
wrapped_high most kind s two h =
    elim (is_error_kind kind) as (λ b. IsHigh most (cond b s (cond (nat_lt s.top.levels most) (joined kind s) (pushed (Error faults.TooTall 0) s)))) [
      | true ↦ h
      | false ↦ by (nat_lt s.top.levels most) refl
    ]
  where
    by : (b : Bool) → nat_lt s.top.levels most ≡ b → IsHigh most (cond b (joined kind s) (pushed (Error faults.TooTall 0) s))
    by true e = joined_high most kind s (lt_from_test s.top.levels most e) h
    by false e = error_high most s faults.TooTall 0 two h

expected_high : (most : ℕ) (o : Option Expectation) (what : Expectation) (s : Stack) → IsHigh most s → IsHigh most (expected_once o what s)
expected_high most (Some old) what s h = h
expected_high most None what s h = elim (is_last kinds.Error s.events) as (λ b. IsHigh most (cond b s (record s { missing = Some what }))) [ true ↦ h | false ↦ h ]

take_all : (hs : List ℕ) → take (length hs) hs ≡ hs
take_all [] = refl
take_all (k ∷ hs) = ap (λ ks. k ∷ ks) (take_all hs)

take_past : (n : ℕ) (hs : List ℕ) → length hs ≤ n → take n hs ≡ hs
take_past zero [] e = refl
take_past zero (k ∷ hs) e = absurd (omega arith)
take_past (suc n) [] e = refl
take_past (suc n) (k ∷ hs) e = ap (λ ks. k ∷ ks) (take_past n hs (omega arith))

-- what is lower at each length is lower at all
all_lower : (ks hs : List ℕ) → ((n : ℕ) → greatest (take n ks) ≤ greatest (take n hs)) → greatest ks ≤ greatest hs
all_lower ks hs low =
    let n : ℕ = length ks + length hs in
    omega (
      arith,
      low n,
      ap greatest (take_past n ks (omega arith)),
      ap greatest (take_past n hs (omega arith)),
    )

changed_high : (most : ℕ) (f : List Event → List Event) (s : Stack) → ((n : ℕ) → greatest (take n (tops (f s.events))) ≤ greatest (take n (tops s.events)))
    → IsHigh most s → IsHigh most (changed f s)
changed_high most f s low h =
    elim (s.top.trees == 0) as (λ b. IsHigh most (cond b s (record s { events = f s.events }))) [
      | true ↦ h
      | false ↦ record {
        all = omega (arith, h.all, all_lower (tops (f s.events)) (tops s.events) low);
        frames = tall_lower (tops (f s.events)) (tops s.events) s.below s.top.trees s.top.levels low h.frames;
        least = h.least;
        leaves = h.leaves;
      }
    ]

unclosed_low : (i : ℕ) (es : List Event) (n : ℕ) → greatest (take n (tops (changed_at as_unclosed i es))) ≤ greatest (take n (tops es))
unclosed_low i es n = omega (arith, ap (λ (hs : List ℕ). greatest (take n hs)) (unclosed_tops i [] es))

kind_low : (kind : SyntaxKind) (i : ℕ) (es : List Event) (n : ℕ) → greatest (take n (tops (changed_at (as_kind kind) i es))) ≤ greatest (take n (tops es))
kind_low kind i es n = omega (arith, ap (λ (hs : List ℕ). greatest (take n hs)) (kind_tops kind i [] es))

delimited_high : (most : ℕ) (first last : SyntaxKind) (s : Stack) → IsHigh most s → IsHigh most (delimited first last s)
delimited_high most first last s h =
    let one : Stack = changed (changed_at (as_kind first) s.top.start) s in
    changed_high most (changed_at (as_kind last) (length s.events - 1)) one (kind_low last (length s.events - 1) one.events)
    (changed_high most (changed_at (as_kind first) s.top.start) s (kind_low first s.top.start s.events) h)

act_high : (text : List ℕ) (most : ℕ) (a : Action) (s : Stack) → 2 ≤ most → IsHigh most s → IsHigh most (act most text a s)
act_high text most (actions.Goto state) s two h = record { all = h.all; frames = h.frames; least = h.least; leaves = h.leaves }
act_high text most actions.Return s two h = returned_high most (last_of s.below) s refl h
act_high text most (actions.Around state number) s two h = surrounded_high most state number (settled s) (settled_high most s two h)
act_high text most (actions.Wrap kind) s two h = wrapped_high most kind (settled s) two (settled_high most s two h)
act_high text most actions.Flush s two h = flushed_high most s two h
act_high text most actions.Up s two h = record { all = h.all; frames = h.frames; least = h.least; leaves = h.leaves }
act_high text most actions.Down s two h = record { all = h.all; frames = h.frames; least = h.least; leaves = h.leaves }
act_high text most (actions.Expected what) s two h = expected_high most s.missing what s h
act_high text most (actions.Wrong what) s two h = changed_high most (mistaken what (length text)) (settled s) (mistaken_low what (length text) (settled s).events) (settled_high most s two h)
act_high text most (actions.Delimit first last) s two h = delimited_high most first last (settled s) (settled_high most s two h)
act_high text most actions.Unclosed s two h = changed_high most (changed_at as_unclosed (settled s).top.start) (settled s) (unclosed_low (settled s).top.start (settled s).events) (settled_high most s two h)
act_high text most (actions.Retag map) s two h = changed_high most (retagged map (length text)) (settled s) (retag_low map (length text) (settled s).events) (settled_high most s two h)
act_high text most (actions.Unique what) s two h = changed_high most (made_unique what text) (settled s) (unique_low what text (settled s).events) (settled_high most s two h)

acts_high : (text : List ℕ) (most : ℕ) (all : List Action) (s : Stack) → 2 ≤ most → IsHigh most s → IsHigh most (acts most text all s)
acts_high text most [] s two h = h
acts_high text most (a ∷ more) s two h = acts_high text most more (act most (take (events_end s) text) a s) two (act_high (take (events_end s) text) most a s two h)

-- a token is one tree of at most two levels
record IsOne (hs : List ℕ) (es : List Event) : Type 0 where
  levels : ℕ
  low : levels ≤ 2
  is : tops_onto hs es ≡ levels ∷ hs

plain_one : (hs : List ℕ) (o : Option Fault) (leaf : SyntaxKind) (len : ℕ) → IsOne hs (plain_event o leaf len ∷ [])
plain_one hs None leaf len = record { levels = 1; low = omega arith; is = refl }
plain_one hs (Some fault) leaf len = record { levels = 1; low = omega arith; is = refl }

as_one : (hs : List ℕ) (leaf : SyntaxKind) (kind : TokenKind) (bs : List ℕ) → IsOne hs (events_as leaf kind bs)
as_one hs leaf tokens.Raw bs = let one = raw_tops hs bs in record { levels = one.0; low = one.1; is = one.2 }
as_one hs leaf kind bs = plain_one hs (fault_of kind) leaf (length bs)

for_one : (hs : List ℕ) (take : Take) (kind : TokenKind) (bs : List ℕ) → IsOne hs (events_for take kind bs)
for_one hs (takes.EatAs leaf) kind bs = as_one hs leaf kind bs
for_one hs takes.Unexpected kind bs = record { levels = 1; low = omega arith; is = refl }
for_one hs (takes.Mistake what) kind bs = record { levels = 1; low = omega arith; is = refl }
for_one hs takes.Eat kind bs = as_one hs (leaf_kind kind) kind bs
for_one hs takes.Nothing kind bs = as_one hs (leaf_kind kind) kind bs

put_high : (bs : List ℕ) (most : ℕ) (es : List Event) (s : Stack) → 2 ≤ most → ((hs : List ℕ) → IsOne hs es) → IsHigh most s → IsHigh most (put bs es s)
put_high bs most es s two one h =
    let p : Stack = placed (settled s) in
    let g : IsHigh most p = placed_high most (settled s) two (settled_high most s two h) in
    let t : IsOne (tops p.events) es = one (tops p.events) in
    let u = push_high most t.levels p es two t.low (tops-append [] p.events es ∙ t.is) g in
    record { all = u.all; frames = u.frames; least = u.least; leaves = λ hs. refl }

read_high : (text : List ℕ) (most : ℕ) (m : Mode) (s : Stack) → IsHigh most s → IsHigh most (read m text s)
read_high text most m s h =
    elim (is_read_in m s.next.mode) as (λ b. IsHigh most (cond b s (tokened text m (token_at m s.next.place text) s))) [ true ↦ h | false ↦ by (token_at m s.next.place text) ]
  where
    by : (o : Option FirstToken) → IsHigh most (tokened text m o s)
    by None = h
    by (Some k) = h

known_high : (text : List ℕ) (most : ℕ) (s : Stack) → IsHigh most s → IsHigh most (known text s)
known_high text most s h = elim (is_some_mode s.next.mode) as (λ b. IsHigh most (cond b s (read (mode_of_space s.next.space) text s))) [ true ↦ h | false ↦ read_high text most (mode_of_space s.next.space) s h ]

forgotten_high : (most : ℕ) (take : Take) (s : Stack) → IsHigh most s → IsHigh most (forgotten take s)
forgotten_high most takes.Nothing s h = h
forgotten_high most takes.Eat s h = h
forgotten_high most (takes.EatAs kind) s h = h
forgotten_high most takes.Unexpected s h = h
forgotten_high most (takes.Mistake what) s h = h

eaten_high : (text : List ℕ) (most : ℕ) (take : Take) (s : Stack) → 2 ≤ most → IsHigh most s → IsHigh most (eaten text take s)
eaten_high text most take s two h = by s.next.kind
  where
    by : (o : Option TokenKind) → IsHigh most (taken_as text take o s)
    by None = ended_high most s two h
    by (Some k) = put_high (token_bytes text s.next) most (events_for take k (token_bytes text s.next)) (forgotten take s) two (λ hs. for_one hs take k (token_bytes text s.next)) (forgotten_high most take s h)

taken_high : (text : List ℕ) (most : ℕ) (take : Take) (s : Stack) → 2 ≤ most → IsHigh most s → IsHigh most (taken text take s)
taken_high text most takes.Nothing s two h = h
taken_high text most takes.Eat s two h = eaten_high text most takes.Eat (known text s) two (known_high text most s h)
taken_high text most (takes.EatAs kind) s two h = eaten_high text most (takes.EatAs kind) (known text s) two (known_high text most s h)
taken_high text most takes.Unexpected s two h = eaten_high text most takes.Unexpected (known text s) two (known_high text most s h)
taken_high text most (takes.Mistake what) s two h = eaten_high text most (takes.Mistake what) (known text s) two (known_high text most s h)

refused_high : (text : List ℕ) (most : ℕ) (fault : Fault) (s : Stack) → 2 ≤ most → IsHigh most s → IsHigh most (refused text fault s)
refused_high text most fault s two h = by (known text s) (known_high text most s h) (known text s).next.kind
  where
    by : (k : Stack) → IsHigh most k → (o : Option TokenKind) → IsHigh most (refused_as text fault o k)
    by k g None = ended_high most k two g
    by k g (Some kind) = put_high (token_bytes text k.next) most (Error fault (length (token_bytes text k.next)) ∷ []) k two (λ hs. record { levels = 1; low = omega arith; is = refl }) g

called_high : (most : ℕ) (o : Option Call) (s : Stack) → 2 ≤ most → IsHigh most s → IsHigh most (called_if o s)
called_high most None s two h = h
called_high most (Some c) s two h = opened_high most c (settled s) (settled_high most s two h)

row_high : (t : Table) (text : List ℕ) (r : Row) (s : Stack) → 2 ≤ t.most_levels → IsHigh t.most_levels s → IsHigh t.most_levels (after_row t text r s)
row_high t text r s two h =
    let u : Stack = acts t.most_levels text r.before s in
    let v : Stack = taken text r.take u in
    called_high t.most_levels r.call (acts t.most_levels text r.after v) two
    (acts_high text t.most_levels r.after v two (taken_high text t.most_levels r.take u two (acts_high text t.most_levels r.before s two h)))

followed_high : (t : Table) (text : List ℕ) (o : Option Row) (s : Stack) → 2 ≤ t.most_levels → IsHigh t.most_levels s → IsHigh t.most_levels (followed t text o s)
followed_high t text None s two h = refused_high text t.most_levels faults.NoRow s two h
followed_high t text (Some r) s two h =
    elim (is_too_deep r.call s) as (λ b. IsHigh t.most_levels (cond b (refused text faults.TooDeep s) (after_row t text r s))) [
      | true ↦ refused_high text t.most_levels faults.TooDeep s two h
      | false ↦ row_high t text r s two h
    ]

ones_push : (n : ℕ) (hs : List ℕ) → 1 ∷ ones n hs ≡ ones n (1 ∷ hs)
ones_push zero hs = refl
ones_push (suc n) hs = ones_push n (1 ∷ hs)

whitened_high : (text : List ℕ) (most : ℕ) (o : Option FirstToken) (s : Stack) → IsHigh most s → IsHigh most (whitened text o s)
whitened_high text most None s h = h
whitened_high text most (Some k) s h = record {
  all = h.all;
  frames = h.frames;
  least = h.least;
  leaves = λ hs.
      let one : length (s.white ++ Leaf (leaf_kind k.kind) k.len ∷ []) ≡ suc (length s.white) = omega (arith, length-append s.white (Leaf (leaf_kind k.kind) k.len ∷ [])) in
      tops-append hs s.white (Leaf (leaf_kind k.kind) k.len ∷ []) ∙ ap (λ (ks : List ℕ). 1 ∷ ks) (h.leaves hs) ∙ ones_push (length s.white) hs ∙ sym (ap (λ n. ones n hs) one);
}

skipped_high : (n : ℕ) (m : Mode) (text : List ℕ) (most : ℕ) (s : Stack) → IsHigh most s → IsHigh most (skipped n m text s)
skipped_high zero m text most s h = h
skipped_high (suc n) m text most s h =
    let u : Stack = whitened text (token_at m s.next.place text) s in
    elim (is_white_at m s.next.place text) as (λ b. IsHigh most (cond b (skipped n m text u) s)) [
      | true ↦ skipped_high n m text most u (whitened_high text most (token_at m s.next.place text) s h)
      | false ↦ h
    ]

spaced_high : (text : List ℕ) (most : ℕ) (m : Mode) (s : Stack) → IsHigh most s → IsHigh most (spaced m text s)
spaced_high text most m s h =
    let v : IsHigh most (unspaced m s) = record { all = h.all; frames = h.frames; least = h.least; leaves = λ hs. refl } in
    elim (is_settled s || is_alike m s.next.space) as (λ b. IsHigh most (cond b s (at_token text (skipped (length text) m text (unspaced m s))))) [
      | true ↦ h
      | false ↦ skipped_high (length text) m text most (unspaced m s) v
    ]

looked_at_high : (t : Table) (text : List ℕ) (m : Mode) (s : Stack) → 2 ≤ t.most_levels → IsHigh t.most_levels s → IsHigh t.most_levels (looked_at t text m s)
looked_at_high t text m s two h =
    let u : Stack = read m text s in
    elim (is_stopped s) as (λ b. IsHigh t.most_levels (cond b (followed t text (row_for t End s) s) (followed t text (row_for t (seen u) u) u))) [
      | true ↦ followed_high t text (row_for t End s) s two h
      | false ↦ followed_high t text (row_for t (seen u) u) u two (read_high text t.most_levels m s h)
    ]

between_high : (most : ℕ) (s : Stack) → 2 ≤ most → IsHigh most s → IsHigh most (between s)
between_high most s two h = elim (is_between s) as (λ b. IsHigh most (cond b (settled s) s)) [ true ↦ settled_high most s two h | false ↦ h ]

looked_high : (t : Table) (text : List ℕ) (s : Stack) → 2 ≤ t.most_levels → IsHigh t.most_levels s → IsHigh t.most_levels (looked t text s)
looked_high t text s two h = by (t.modes s.top.state)
  where
    in_mode : (m : Mode) (s : Stack) → IsHigh t.most_levels s → IsHigh t.most_levels (looked_in t text m s)
    in_mode m s g =
        elim (is_over text s) as (λ b. IsHigh t.most_levels (cond b (ended s) (looked_at t text m (between s)))) [
          | true ↦ ended_high t.most_levels s two g
          | false ↦ looked_at_high t text m (between s) two (between_high t.most_levels s two g)
        ]

    by : (o : Option RowMode) → IsHigh t.most_levels (looked_by o t text s)
    by None = followed_high t text (row_for t End s) s two h
    by (Some m) = in_mode (lexer_mode m) (spaced (lexer_mode m) text s) (spaced_high text t.most_levels (lexer_mode m) s h)

looks_high : (n : ℕ) (t : Table) (text : List ℕ) (s : Stack) → 2 ≤ t.most_levels → IsHigh t.most_levels s → IsHigh t.most_levels (looks n t text s)
looks_high zero t text s two h = refused_high text t.most_levels faults.NoRow s two h
looks_high (suc n) t text s two h =
    let u : Stack = looked t text s in
    let g : IsHigh t.most_levels u = looked_high t text s two h in
    elim (is_looking u.phase) as (λ b. IsHigh t.most_levels (cond b (looks n t text u) u)) [ true ↦ looks_high n t text u two g | false ↦ g ]

pub steps_high : (n : ℕ) (t : Table) (text : List ℕ) (s : Stack) → 2 ≤ t.most_levels → IsHigh t.most_levels s → IsHigh t.most_levels (steps n t text s)
steps_high zero t text s two h = h
steps_high (suc n) t text s two h =
    let u : Stack = step t text s in
    let g : IsHigh t.most_levels u = looks_high t.most_looks t text (looking s) two h in
    elim (is_taken u.phase) as (λ b. IsHigh t.most_levels (cond b (steps n t text u) u)) [ true ↦ steps_high n t text u two g | false ↦ g ]

pub start_high : (most room : ℕ) → IsHigh most (start room)
start_high most room = record { all = omega arith; frames = omega arith; least = omega arith; leaves = λ hs. refl }
