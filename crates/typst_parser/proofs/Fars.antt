-- How far the text was looked at never falls.
use Rattle.std.proofs.Common.{◌≡◌, ℕ, zero, suc, ◌-◌, ◌≤◌, ◌||◌, ◌==◌, nat_lt, true, false, cond, List, [], ◌∷◌, length, take, Option, Some, None, refl, ◌∙◌, arith}
use Rattle.typst_base.specs.declared.kind.SyntaxKind.{SyntaxKind}
use Rattle.typst_base.specs.declared.kind.SyntaxKind.TheVariants as kinds
use Rattle.typst_parser.specs.Actions.{act, acts, as_kind, as_unclosed, changed, expected_once, is_error_kind, joined, returned_by, wrapped}
use Rattle.typst_parser.specs.Frames.{ended, events_end, is_looking, is_taken, looking, pushed, settled, settled_by}
use Rattle.typst_parser.specs.Last.{last_of}
use Rattle.typst_parser.specs.Lists.{changed_at}
use Rattle.typst_parser.specs.Mistakes.{mistaken}
use Rattle.typst_parser.specs.Reads.{at_token, is_alike, is_read_in, is_settled, is_some_mode, is_white_at, known, mode_of_space, read, skipped, spaced, token_at, tokened, unspaced, whitened}
use Rattle.typst_parser.specs.Retag.{retagged}
use Rattle.typst_parser.specs.Rows.{Table, is_last, is_stopped, lexer_mode, row_for, seen}
use Rattle.typst_parser.specs.Stack.{Stack}
use Rattle.typst_parser.specs.Steps.{after_row, between, called_if, eaten, followed, forgotten, is_between, is_over, is_too_deep, looked, looked_at, looked_by, looked_in, looks, put, refused, refused_as, step, steps, taken, taken_as, token_bytes}
use Rattle.typst_parser.specs.Tokens.{events_for}
use Rattle.typst_parser.specs.Unique.{made_unique}
use Rattle.typst_parser.specs.declared.event.Event.{Event}
use Rattle.typst_parser.specs.declared.event.Event.TheVariants.{Error}
use Rattle.typst_parser.specs.declared.fault.Fault.{Fault}
use Rattle.typst_parser.specs.declared.fault.Fault.TheVariants as faults
use Rattle.typst_parser.specs.declared.stack.Frame.{Frame}
use Rattle.typst_grammar.specs.Row.{Row}
use Rattle.typst_grammar.specs.declared.expectation.Expectation.{Expectation}
use Rattle.typst_grammar.specs.declared.row.Action.{Action}
use Rattle.typst_grammar.specs.declared.row.Action.TheVariants as actions
use Rattle.typst_grammar.specs.declared.row.Call.{Call}
use Rattle.typst_grammar.specs.declared.row.Mode.{Mode as RowMode}
use Rattle.typst_grammar.specs.declared.row.Take.{Take}
use Rattle.typst_grammar.specs.declared.row.Take.TheVariants as takes
use Rattle.typst_grammar.specs.declared.rows.Class.TheVariants.{End}
use Rattle.typst_lexer.specs.declared.head.FirstToken.{FirstToken}
use Rattle.typst_lexer.specs.declared.mode.Mode.{Mode}
use Rattle.typst_lexer.specs.declared.token.TokenKind.{TokenKind}

settled_by_far : (o : Option Expectation) (s : Stack) → (settled_by o s).far ≡ s.far
settled_by_far None s = refl
settled_by_far (Some what) s = refl

pub settled_far : (s : Stack) → (settled s).far ≡ s.far
settled_far s = settled_by_far s.missing s

returned_far : (o : Option (List Frame × Frame)) (s : Stack) → (returned_by o s).far ≡ s.far
returned_far None s = refl
returned_far (Some p) s = refl

wrapped_far : (most : ℕ) (kind : SyntaxKind) (s : Stack) → (wrapped most kind s).far ≡ s.far
wrapped_far most kind s =
    elim (is_error_kind kind) as (λ b. (cond b s (cond (nat_lt s.top.levels most) (joined kind s) (pushed (Error faults.TooTall 0) s))).far ≡ s.far) [
      | true ↦ refl
      | false ↦ elim (nat_lt s.top.levels most) as (λ b. (cond b (joined kind s) (pushed (Error faults.TooTall 0) s)).far ≡ s.far) [ true ↦ refl | false ↦ refl ]
    ]

expected_far : (o : Option Expectation) (what : Expectation) (s : Stack) → (expected_once o what s).far ≡ s.far
expected_far (Some old) what s = refl
expected_far None what s = elim (is_last kinds.Error s.events) as (λ b. (cond b s (record s { missing = Some what })).far ≡ s.far) [ true ↦ refl | false ↦ refl ]

changed_far : (f : List Event → List Event) (s : Stack) → (changed f s).far ≡ s.far
changed_far f s = elim (s.top.trees == 0) as (λ b. (cond b s (record s { events = f s.events })).far ≡ s.far) [ true ↦ refl | false ↦ refl ]

pub act_far : (most : ℕ) (text : List ℕ) (a : Action) (s : Stack) → (act most text a s).far ≡ s.far
act_far most text (actions.Goto state) s = refl
act_far most text actions.Return s = returned_far (last_of s.below) s
act_far most text (actions.Around state number) s = settled_far s
act_far most text (actions.Wrap kind) s = wrapped_far most kind (settled s) ∙ settled_far s
act_far most text actions.Flush s = settled_far s
act_far most text actions.Up s = refl
act_far most text actions.Down s = refl
act_far most text (actions.Expected what) s = expected_far s.missing what s
act_far most text (actions.Wrong what) s = changed_far (mistaken what (length text)) (settled s) ∙ settled_far s
act_far most text (actions.Delimit first last) s =
    let u : Stack = settled s in
    changed_far (changed_at (as_kind last) (length u.events - 1)) (changed (changed_at (as_kind first) u.top.start) u) ∙ changed_far (changed_at (as_kind first) u.top.start) u ∙ settled_far s
act_far most text actions.Unclosed s = changed_far (changed_at as_unclosed (settled s).top.start) (settled s) ∙ settled_far s
act_far most text (actions.Retag map) s = changed_far (retagged map (length text)) (settled s) ∙ settled_far s
act_far most text (actions.Unique what) s = changed_far (made_unique what text) (settled s) ∙ settled_far s

pub acts_far : (most : ℕ) (text : List ℕ) (all : List Action) (s : Stack) → (acts most text all s).far ≡ s.far
acts_far most text [] s = refl
acts_far most text (a ∷ more) s = acts_far most text more (act most (take (events_end s) text) a s) ∙ act_far most (take (events_end s) text) a s

pub ended_far : (s : Stack) → (ended s).far ≡ s.far
ended_far s = settled_far s

pub put_far : (bs : List ℕ) (es : List Event) (s : Stack) → (put bs es s).far ≡ s.far
put_far bs es s = settled_far s

forgotten_far : (take : Take) (s : Stack) → (forgotten take s).far ≡ s.far
forgotten_far takes.Nothing s = refl
forgotten_far takes.Eat s = refl
forgotten_far (takes.EatAs kind) s = refl
forgotten_far takes.Unexpected s = refl
forgotten_far (takes.Mistake what) s = refl

taken_as_far : (text : List ℕ) (take : Take) (o : Option TokenKind) (s : Stack) → (taken_as text take o s).far ≡ s.far
taken_as_far text take None s = ended_far s
taken_as_far text take (Some k) s = put_far (token_bytes text s.next) (events_for take k (token_bytes text s.next)) (forgotten take s) ∙ forgotten_far take s

pub eaten_far : (text : List ℕ) (take : Take) (s : Stack) → (eaten text take s).far ≡ s.far
eaten_far text take s = taken_as_far text take s.next.kind s

refused_as_far : (text : List ℕ) (fault : Fault) (o : Option TokenKind) (s : Stack) → (refused_as text fault o s).far ≡ s.far
refused_as_far text fault None s = ended_far s
refused_as_far text fault (Some k) s = put_far (token_bytes text s.next) (Error fault (length (token_bytes text s.next)) ∷ []) s

pub refused_known : (text : List ℕ) (fault : Fault) (s : Stack) → (refused text fault s).far ≡ (known text s).far
refused_known text fault s = refused_as_far text fault (known text s).next.kind (known text s)

tokened_far : (text : List ℕ) (m : Mode) (o : Option FirstToken) (s : Stack) → s.far ≤ (tokened text m o s).far
tokened_far text m None s = omega arith
tokened_far text m (Some k) s = omega arith

pub read_far : (m : Mode) (text : List ℕ) (s : Stack) → s.far ≤ (read m text s).far
read_far m text s =
    elim (is_read_in m s.next.mode) as (λ b. s.far ≤ (cond b s (tokened text m (token_at m s.next.place text) s)).far) [
      | true ↦ omega arith
      | false ↦ tokened_far text m (token_at m s.next.place text) s
    ]

pub known_far : (text : List ℕ) (s : Stack) → s.far ≤ (known text s).far
known_far text s = elim (is_some_mode s.next.mode) as (λ b. s.far ≤ (cond b s (read (mode_of_space s.next.space) text s)).far) [ true ↦ omega arith | false ↦ read_far (mode_of_space s.next.space) text s ]

pub taken_far : (text : List ℕ) (take : Take) (s : Stack) → s.far ≤ (taken text take s).far
taken_far text takes.Nothing s = omega arith
taken_far text takes.Eat s = omega (arith, eaten_far text takes.Eat (known text s), known_far text s)
taken_far text (takes.EatAs kind) s = omega (arith, eaten_far text (takes.EatAs kind) (known text s), known_far text s)
taken_far text takes.Unexpected s = omega (arith, eaten_far text takes.Unexpected (known text s), known_far text s)
taken_far text (takes.Mistake what) s = omega (arith, eaten_far text (takes.Mistake what) (known text s), known_far text s)

pub refused_far : (text : List ℕ) (fault : Fault) (s : Stack) → s.far ≤ (refused text fault s).far
refused_far text fault s = omega (arith, refused_known text fault s, known_far text s)

pub called_far : (o : Option Call) (s : Stack) → (called_if o s).far ≡ s.far
called_far None s = refl
called_far (Some c) s = settled_far s

pub row_far : (t : Table) (text : List ℕ) (r : Row) (s : Stack) → s.far ≤ (after_row t text r s).far
row_far t text r s =
    let u : Stack = acts t.most_levels text r.before s in
    let v : Stack = taken text r.take u in
    omega (
      arith,
      acts_far t.most_levels text r.before s,
      taken_far text r.take u,
      acts_far t.most_levels text r.after v,
      called_far r.call (acts t.most_levels text r.after v),
    )

pub followed_far : (t : Table) (text : List ℕ) (o : Option Row) (s : Stack) → s.far ≤ (followed t text o s).far
followed_far t text None s = refused_far text faults.NoRow s
followed_far t text (Some r) s =
    elim (is_too_deep r.call s) as (λ b. s.far ≤ (cond b (refused text faults.TooDeep s) (after_row t text r s)).far) [
      | true ↦ refused_far text faults.TooDeep s
      | false ↦ row_far t text r s
    ]

whitened_far : (text : List ℕ) (o : Option FirstToken) (s : Stack) → s.far ≤ (whitened text o s).far
whitened_far text None s = omega arith
whitened_far text (Some k) s = omega arith

pub skipped_far : (n : ℕ) (m : Mode) (text : List ℕ) (s : Stack) → s.far ≤ (skipped n m text s).far
skipped_far zero m text s = omega arith
skipped_far (suc n) m text s =
    let u : Stack = whitened text (token_at m s.next.place text) s in
    elim (is_white_at m s.next.place text) as (λ b. s.far ≤ (cond b (skipped n m text u) s).far) [
      | true ↦ omega (arith, whitened_far text (token_at m s.next.place text) s, skipped_far n m text u)
      | false ↦ omega arith
    ]

pub at_token_far : (text : List ℕ) (s : Stack) → s.far ≤ (at_token text s).far
at_token_far text s = omega arith

pub spaced_far : (m : Mode) (text : List ℕ) (s : Stack) → s.far ≤ (spaced m text s).far
spaced_far m text s =
    let u : Stack = skipped (length text) m text (unspaced m s) in
    elim (is_settled s || is_alike m s.next.space) as (λ b. s.far ≤ (cond b s (at_token text u)).far) [
      | true ↦ omega arith
      | false ↦ omega (arith, skipped_far (length text) m text (unspaced m s), at_token_far text u)
    ]

pub looked_at_far : (t : Table) (text : List ℕ) (m : Mode) (s : Stack) → s.far ≤ (looked_at t text m s).far
looked_at_far t text m s =
    let u : Stack = read m text s in
    elim (is_stopped s) as (λ b. s.far ≤ (cond b (followed t text (row_for t End s) s) (followed t text (row_for t (seen u) u) u)).far) [
      | true ↦ followed_far t text (row_for t End s) s
      | false ↦ omega (arith, read_far m text s, followed_far t text (row_for t (seen u) u) u)
    ]

pub between_far : (s : Stack) → (between s).far ≡ s.far
between_far s = elim (is_between s) as (λ b. (cond b (settled s) s).far ≡ s.far) [ true ↦ settled_far s | false ↦ refl ]

pub looked_in_far : (t : Table) (text : List ℕ) (m : Mode) (s : Stack) → s.far ≤ (looked_in t text m s).far
looked_in_far t text m s =
    elim (is_over text s) as (λ b. s.far ≤ (cond b (ended s) (looked_at t text m (between s))).far) [
      | true ↦ omega (arith, ended_far s)
      | false ↦ omega (arith, between_far s, looked_at_far t text m (between s))
    ]

pub looked_far : (t : Table) (text : List ℕ) (s : Stack) → s.far ≤ (looked t text s).far
looked_far t text s = by (t.modes s.top.state)
  where
    by : (o : Option RowMode) → s.far ≤ (looked_by o t text s).far
    by None = followed_far t text (row_for t End s) s
    by (Some m) = omega (arith, spaced_far (lexer_mode m) text s, looked_in_far t text (lexer_mode m) (spaced (lexer_mode m) text s))

pub looks_far : (n : ℕ) (t : Table) (text : List ℕ) (s : Stack) → s.far ≤ (looks n t text s).far
looks_far zero t text s = refused_far text faults.NoRow s
looks_far (suc n) t text s =
    let u : Stack = looked t text s in
    let now : s.far ≤ u.far = looked_far t text s in
    elim (is_looking u.phase) as (λ b. s.far ≤ (cond b (looks n t text u) u).far) [ true ↦ omega (arith, now, looks_far n t text u) | false ↦ now ]

pub step_far : (t : Table) (text : List ℕ) (s : Stack) → s.far ≤ (step t text s).far
step_far t text s = looks_far t.most_looks t text (looking s)

pub steps_far : (n : ℕ) (t : Table) (text : List ℕ) (s : Stack) → s.far ≤ (steps n t text s).far
steps_far zero t text s = omega arith
steps_far (suc n) t text s =
    let u : Stack = step t text s in
    let now : s.far ≤ u.far = step_far t text s in
    elim (is_taken u.phase) as (λ b. s.far ≤ (cond b (steps n t text u) u).far) [ true ↦ omega (arith, now, steps_far n t text u) | false ↦ now ]
