-- What the machine keeps of places: the events have exactly the bytes up to where they end.
use Rattle.std.proofs.Common.{◌≡◌, ℕ, zero, suc, ◌+◌, ◌-◌, ◌≤◌, ◌<◌, ◌==◌, nat_lt, true, false, cond, List, [], ◌∷◌, ◌++◌, length, take, Option, Some, None, refl, sym, ap, subst, ◌∙◌, arith}
use Rattle.std.proofs.lemmas.List.{length-take}
use Rattle.typst_base.specs.declared.kind.SyntaxKind.{SyntaxKind}
use Rattle.typst_base.specs.declared.kind.SyntaxKind.TheVariants as kinds
use Rattle.typst_parser.specs.Actions.{act, acts, as_kind, as_unclosed, changed, delimited, expected_once, flushed, is_error_kind, joined, returned_by, wrapped}
use Rattle.typst_parser.specs.Events.{bytes, bytes_of}
use Rattle.typst_parser.specs.Frames.{ended, events_end, is_looking, is_taken, placed, pushed, settled, settled_by}
use Rattle.typst_parser.specs.Last.{last_of}
use Rattle.typst_parser.specs.Lists.{changed_at}
use Rattle.typst_parser.specs.Mistakes.{mistaken}
use Rattle.typst_parser.specs.Retag.{retagged}
use Rattle.typst_parser.specs.Rows.{is_last}
use Rattle.typst_parser.specs.Stack.{Stack}
use Rattle.typst_parser.specs.Unique.{made_unique}
use Rattle.typst_parser.specs.declared.event.Event.{Event}
use Rattle.typst_parser.specs.declared.event.Event.TheVariants.{Error, Leaf, Node}
use Rattle.typst_parser.specs.declared.fault.Fault.TheVariants as faults
use Rattle.typst_parser.specs.declared.next.Next.{Next}
use Rattle.typst_parser.specs.declared.next.Place.{Place}
use Rattle.typst_parser.specs.declared.stack.Frame.{Frame}
use Rattle.typst_parser.specs.declared.stack.Phase.{Phase}
use Rattle.typst_grammar.specs.declared.expectation.Expectation.{Expectation}
use Rattle.typst_grammar.specs.declared.row.Action.{Action}
use Rattle.typst_grammar.specs.declared.row.Action.TheVariants as actions
use Rattle.typst_lexer.specs.declared.mode.Mode.{Mode}
use Rattle.typst_lexer.specs.declared.token.TokenKind.{TokenKind}
use Rattle.typst_parser.proofs.Uniques.{unique_bytes}
use Rattle.typst_parser.proofs.Mistaking.{mistaken_bytes}
use Rattle.typst_parser.proofs.Retags.{retag_bytes}

pub bytes-append : (es fs : List Event) → bytes (es ++ fs) ≡ bytes es + bytes fs
bytes-append [] fs = omega arith
bytes-append (e ∷ es) fs = omega (arith, bytes-append es fs)

-- a token that was read is within the text, and the end is the end of the text
abbrev pub IsToken : List ℕ → Option TokenKind → Option Mode → ℕ → ℕ → ℕ → Type 0
IsToken text None None at end far = Unit {0}
IsToken text None (Some m) at end far = length text ≤ at
IsToken text (Some k) m at end far = (at < end) × (end ≤ length text) × (end ≤ far)

-- where the events end
abbrev pub end_of : Place → Next → ℕ
end_of from next = cond next.is_flushed next.place.at from.at

pub record Good (base : ℕ) (text : List ℕ) (events white : List Event) (from : Place) (next : Next) (far : ℕ) (phase : Phase) : Type 0 where
  pub ends : bytes events ≡ end_of from next
  pub gap : bytes events + bytes white ≡ next.place.at
  pub order : from.at ≤ next.place.at
  pub within : next.place.at ≤ length text
  pub looked : next.place.at ≤ far
  pub token : IsToken text next.kind next.mode next.place.at next.end far
  pub rest : is_looking phase ≡ false → next.place.at ≡ from.at
  pub line : next.line ≡ true → 0 < next.place.at
  pub some : is_looking phase ≡ false → 0 < length text → 0 < from.at
  pub seen : next.line ≡ true → next.place.at + 10 ≤ far
  pub based : base ≤ from.at
  pub ahead : is_taken phase ≡ true → base < from.at

abbrev pub IsGood : ℕ → List ℕ → Stack → Type 0
IsGood base text s = Good base text s.events s.white s.from s.next s.far s.phase

-- other events with as many bytes
same_bytes : (base : ℕ) (text : List ℕ) (es fs ws : List Event) (from : Place) (next : Next) (far : ℕ) (phase : Phase) → bytes fs ≡ bytes es → Good base text es ws from next far phase → Good base text fs ws from next far phase
same_bytes base text es fs ws from next far phase same h = record {
  ends = same ∙ h.ends;
  gap = ap (λ n. n + bytes ws) same ∙ h.gap;
  order = h.order;
  within = h.within;
  looked = h.looked;
  token = h.token;
  rest = h.rest;
  line = h.line;
  some = h.some;
  seen = h.seen;
  based = h.based;
  ahead = h.ahead;
}

pub push_bytes : (es : List Event) (e : Event) → bytes (es ++ e ∷ []) ≡ bytes es + bytes_of e
push_bytes es e = omega (arith, bytes-append es (e ∷ []))

-- an event without bytes more
empty_good : (base : ℕ) (text : List ℕ) (s : Stack) (e : Event) → bytes_of e ≡ 0 → IsGood base text s → Good base text (s.events ++ e ∷ []) s.white s.from s.next s.far s.phase
empty_good base text s e none h = same_bytes base text s.events (s.events ++ e ∷ []) s.white s.from s.next s.far s.phase (omega (arith, push_bytes s.events e, none)) h

settled_by_good : (base : ℕ) (text : List ℕ) (o : Option Expectation) (s : Stack) → IsGood base text s → IsGood base text (settled_by o s)
settled_by_good base text None s h = h
settled_by_good base text (Some what) s h = empty_good base text s (Error (faults.Expected what) 0) refl h

pub settled_good : (base : ℕ) (text : List ℕ) (s : Stack) → IsGood base text s → IsGood base text (settled s)
settled_good base text s h = settled_by_good base text s.missing s h

-- the white space goes into the events, at a place where they end now
pub placed_bytes : (base : ℕ) (text : List ℕ) (s : Stack) → IsGood base text s → bytes (placed s).events ≡ s.next.place.at
placed_bytes base text s h = bytes-append s.events s.white ∙ h.gap

flushed_good : (base : ℕ) (text : List ℕ) (s : Stack) → IsGood base text s → IsGood base text (flushed s)
flushed_good base text s h =
    let u : Stack = settled s in
    let g : IsGood base text u = settled_good base text s h in
    let all : bytes (placed u).events ≡ u.next.place.at = placed_bytes base text u g in
    record {
      ends = all;
      gap = omega (arith, all);
      order = g.order;
      within = g.within;
      looked = g.looked;
      token = g.token;
      rest = g.rest;
      line = g.line;
      some = g.some;
      seen = g.seen;
      based = g.based;
      ahead = g.ahead;
    }

settled_next : (o : Option Expectation) (s : Stack) → (settled_by o s).next ≡ s.next
settled_next None s = refl
settled_next (Some what) s = refl

pub next_settled : (s : Stack) → (settled s).next ≡ s.next
next_settled s = settled_next s.missing s

pub ended_good : (base : ℕ) (text : List ℕ) (s : Stack) → (0 < length text → 0 < s.next.place.at) → IsGood base text s → IsGood base text (ended s)
ended_good base text s some h =
    let u : Stack = settled s in
    let g : IsGood base text u = settled_good base text s h in
    let all : bytes (placed u).events ≡ u.next.place.at = placed_bytes base text u g in
    record {
      ends = elim u.next.is_flushed as (λ b. bytes (placed u).events ≡ cond b u.next.place.at u.next.place.at) [ true ↦ all | false ↦ all ];
      gap = omega (arith, all);
      order = omega arith;
      within = g.within;
      looked = g.looked;
      token = g.token;
      rest = λ _. refl;
      line = g.line;
      some = λ _ more. subst (λ (n : Next). 0 < n.place.at) (sym (next_settled s)) (some more);
      seen = g.seen;
      based = omega (arith, g.order, g.based);
      ahead = λ e. cc;
    }

returned_good : (base : ℕ) (text : List ℕ) (o : Option (List Frame × Frame)) (s : Stack) → IsGood base text s → IsGood base text (returned_by o s)
returned_good base text None s h = h
returned_good base text (Some p) s h = h

wrapped_good : (base : ℕ) (text : List ℕ) (most : ℕ) (kind : SyntaxKind) (s : Stack) → IsGood base text s → IsGood base text (wrapped most kind s)
wrapped_good base text most kind s h =
    elim (is_error_kind kind) as (λ b. IsGood base text (cond b s (cond (nat_lt s.top.levels most) (joined kind s) (pushed (Error faults.TooTall 0) s)))) [
      | true ↦ h
      | false ↦ elim (nat_lt s.top.levels most) as (λ b. IsGood base text (cond b (joined kind s) (pushed (Error faults.TooTall 0) s))) [
        | true ↦ empty_good base text s (Node kind s.top.trees) refl h
        | false ↦ empty_good base text s (Error faults.TooTall 0) refl h
      ]
    ]

expected_good : (base : ℕ) (text : List ℕ) (o : Option Expectation) (what : Expectation) (s : Stack) → IsGood base text s → IsGood base text (expected_once o what s)
expected_good base text (Some old) what s h = h
expected_good base text None what s h = elim (is_last kinds.Error s.events) as (λ b. IsGood base text (cond b s (record s { missing = Some what }))) [ true ↦ h | false ↦ h ]

-- a change of the events that keeps the bytes
changed_good : (base : ℕ) (text : List ℕ) (f : List Event → List Event) (s : Stack) → bytes (f s.events) ≡ bytes s.events → IsGood base text s → IsGood base text (changed f s)
changed_good base text f s same h =
    elim (s.top.trees == 0) as (λ b. IsGood base text (cond b s (record s { events = f s.events }))) [
      | true ↦ h
      | false ↦ same_bytes base text s.events (f s.events) s.white s.from s.next s.far s.phase same h
    ]

pub kind_bytes : (kind : SyntaxKind) (i : ℕ) (es : List Event) → bytes (changed_at (as_kind kind) i es) ≡ bytes es
kind_bytes kind i [] = refl
kind_bytes kind zero (Leaf old len ∷ es) = refl
kind_bytes kind zero (Error fault len ∷ es) = refl
kind_bytes kind zero (Node old children ∷ es) = refl
kind_bytes kind (suc i) (e ∷ es) = ap (λ n. bytes_of e + n) (kind_bytes kind i es)

delimited_good : (base : ℕ) (text : List ℕ) (first last : SyntaxKind) (s : Stack) → IsGood base text s → IsGood base text (delimited first last s)
delimited_good base text first last s h =
    let one : Stack = changed (changed_at (as_kind first) s.top.start) s in
    changed_good base text (changed_at (as_kind last) (length s.events - 1)) one (kind_bytes last (length s.events - 1) one.events)
    (changed_good base text (changed_at (as_kind first) s.top.start) s (kind_bytes first s.top.start s.events) h)

pub unclosed_bytes : (i : ℕ) (es : List Event) → bytes (changed_at as_unclosed i es) ≡ bytes es
unclosed_bytes i [] = refl
unclosed_bytes zero (Leaf kind len ∷ es) = refl
unclosed_bytes zero (Error fault len ∷ es) = refl
unclosed_bytes zero (Node kind children ∷ es) = refl
unclosed_bytes (suc i) (e ∷ es) = ap (λ n. bytes_of e + n) (unclosed_bytes i es)

-- the text up to the end of the events is as long as the events
pub before_fits : (base : ℕ) (text : List ℕ) (s : Stack) → IsGood base text s → bytes (settled s).events ≤ length (take (events_end s) text)
before_fits base text s h =
    let g : IsGood base text (settled s) = settled_good base text s h in
    let end : bytes s.events ≡ events_end s = h.ends in
    let same : bytes (settled s).events ≡ bytes s.events = settled_bytes s.missing s in
    let all : events_end s ≤ length text = elim s.next.is_flushed as (λ b. cond b s.next.place.at s.from.at ≤ length text) [ true ↦ h.within | false ↦ omega (arith, h.order, h.within) ] in
    omega (arith, length-take (events_end s) text)
  where
    settled_bytes : (o : Option Expectation) (s : Stack) → bytes (settled_by o s).events ≡ bytes s.events
    settled_bytes None s = refl
    settled_bytes (Some what) s = omega (arith, push_bytes s.events (Error (faults.Expected what) 0))

pub act_good : (base : ℕ) (text : List ℕ) (most : ℕ) (a : Action) (s : Stack) → IsGood base text s → IsGood base text (act most (take (events_end s) text) a s)
act_good base text most (actions.Goto state) s h = h
act_good base text most actions.Return s h = returned_good base text (last_of s.below) s h
act_good base text most (actions.Around state number) s h = settled_good base text s h
act_good base text most (actions.Wrap kind) s h = wrapped_good base text most kind (settled s) (settled_good base text s h)
act_good base text most actions.Flush s h = flushed_good base text s h
act_good base text most actions.Up s h = h
act_good base text most actions.Down s h = h
act_good base text most (actions.Expected what) s h = expected_good base text s.missing what s h
act_good base text most (actions.Wrong what) s h = changed_good base text (mistaken what (length (take (events_end s) text))) (settled s)
    (mistaken_bytes what (length (take (events_end s) text)) (settled s).events (before_fits base text s h)) (settled_good base text s h)
act_good base text most (actions.Delimit first last) s h = delimited_good base text first last (settled s) (settled_good base text s h)
act_good base text most actions.Unclosed s h = changed_good base text (changed_at as_unclosed (settled s).top.start) (settled s) (unclosed_bytes (settled s).top.start (settled s).events) (settled_good base text s h)
act_good base text most (actions.Retag map) s h =
    let end : ℕ = length (take (events_end s) text) in
    changed_good base text (retagged map end) (settled s) (retag_bytes map end (settled s).events (before_fits base text s h)) (settled_good base text s h)
act_good base text most (actions.Unique what) s h =
    changed_good base text (made_unique what (take (events_end s) text)) (settled s) (unique_bytes what (take (events_end s) text) (settled s).events (before_fits base text s h)) (settled_good base text s h)

pub acts_good : (base : ℕ) (text : List ℕ) (most : ℕ) (all : List Action) (s : Stack) → IsGood base text s → IsGood base text (acts most text all s)
acts_good base text most [] s h = h
acts_good base text most (a ∷ more) s h = acts_good base text most more (act most (take (events_end s) text) a s) (act_good base text most a s h)
