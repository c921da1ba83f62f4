-- What the machine does depends only on the bytes that it looks at.
use Rattle.std.proofs.Common.{◌≡◌, ℕ, zero, suc, ◌+◌, ◌-◌, ◌≤◌, ◌<◌, ◌||◌, ◌&&◌, ◌==◌, max, nat_lt, not, Bool, true, false, cond, List, [], ◌∷◌, codes, length, take, drop, Option, Some, None, refl, sym, ap, subst, ◌∙◌, arith}
use Rattle.std.proofs.lemmas.Bool.Decides.{nat_tests}
use Rattle.std.proofs.lemmas.List.{drop-take, length-take}
use Rattle.typst_parser.specs.Actions.{act, acts}
use Rattle.typst_parser.specs.Frames.{ended, events_end, is_looking, is_taken, looking}
use Rattle.typst_parser.specs.Reads.{at_token, is_alike, is_read_in, is_settled, is_some_mode, is_white_at, known, mode_of_space, part, read, seen_to, skipped, spaced, token_at, token_of, tokened, unspaced, whitened, whitened_by}
use Rattle.typst_parser.specs.Rows.{Table, is_stopped, lexer_mode, row_for, seen}
use Rattle.typst_parser.specs.Stack.{Stack}
use Rattle.typst_parser.specs.Steps.{after_row, between, called_if, eaten, followed, forgotten, is_between, is_over, is_too_deep, looked, looked_at, looked_by, looked_in, looks, put, refused, refused_as, step, steps, taken, taken_as, token_bytes}
use Rattle.typst_parser.specs.Tokens.{events_for}
use Rattle.typst_parser.specs.declared.event.Event.TheVariants.{Error}
use Rattle.typst_parser.specs.declared.fault.Fault.{Fault}
use Rattle.typst_parser.specs.declared.fault.Fault.TheVariants as faults
use Rattle.typst_parser.specs.declared.next.Place.{Place}
use Rattle.typst_grammar.specs.Row.{Row}
use Rattle.typst_grammar.specs.declared.row.Action.{Action}
use Rattle.typst_grammar.specs.declared.row.Mode.{Mode as RowMode}
use Rattle.typst_grammar.specs.declared.row.Take.{Take}
use Rattle.typst_grammar.specs.declared.row.Take.TheVariants as takes
use Rattle.typst_grammar.specs.declared.rows.Class.TheVariants.{End}
use Rattle.typst_lexer.specs.Characters.{begins_with}
use Rattle.typst_lexer.specs.FirstToken.{first}
use Rattle.typst_lexer.specs.Machine.{begin}
use Rattle.typst_lexer.specs.White.{begins_white, is_white}
use Rattle.typst_lexer.specs.declared.head.FirstToken.{FirstToken}
use Rattle.typst_lexer.specs.declared.mode.Mode.{Mode}
use Rattle.typst_lexer.specs.declared.place.Behind.{Behind}
use Rattle.typst_lexer.specs.declared.token.TokenKind.{TokenKind}
use Rattle.typst_lexer.proofs.FirstTokens.{first_local, first_looked, first_within}
use Rattle.typst_lexer.proofs.Runs.{take_less}
use Rattle.typst_parser.proofs.Fars.{acts_far, act_far, called_far, eaten_far, followed_far, looked_in_far, looks_far, refused_known, skipped_far, steps_far, taken_far}
use Rattle.typst_parser.proofs.Good.{IsGood, IsToken, act_good, acts_good}
use Rattle.typst_parser.proofs.Placing.{between_good, known_good, look_long, looked_good, looking_good, read_good, spaced_good, step_good, taken_good}

pub later : (n m : ℕ) (t u : List ℕ) → take (n + m) t ≡ take (n + m) u → take m (drop n t) ≡ take m (drop n u)
later n m t u e = sym (drop-take n m t) ∙ ap (drop n) e ∙ drop-take n m u

-- White space is told by ten bytes, and `#!` by two.
white_of : Mode → Behind → List ℕ → Bool
white_of m k [] = false
white_of m k (b ∷ bs) = is_white (begin m k (b ∷ bs)).place

white_window : (m : Mode) (k : Behind) (xs : List ℕ) → begins_white m k xs ≡ white_of m k (take 10 xs)
unfolding white_of
white_window m k [] = refl
white_window m k (b ∷ bs) = refl

shebang_window : (xs : List ℕ) → begins_with (codes "#!") xs ≡ begins_with (codes "#!") (take 2 xs)
shebang_window [] = refl
shebang_window (a ∷ []) = refl
shebang_window (a ∷ b ∷ xs) = refl

token_same : (m : Mode) (k : Behind) (xs ys : List ℕ) (t : FirstToken) → token_of m k xs ≡ Some t → take t.look xs ≡ take t.look ys → token_of m k ys ≡ Some t
token_same m k [] ys t is same = cc
token_same m k (x ∷ xs) [] t is same =
    let q : first m k (x ∷ xs) ≡ t = cc in
    absurd (omega (arith, look_long m k (x ∷ xs), ap (λ (p : FirstToken). p.look) q, ap length same, length-take t.look (x ∷ xs), length-take {A = ℕ} t.look []))
token_same m k (x ∷ xs) (y ∷ ys) t is same =
    let q : first m k (x ∷ xs) ≡ t = cc in
    let same_here : take (first m k (x ∷ xs)).look (x ∷ xs) ≡ take (first m k (x ∷ xs)).look (y ∷ ys) = subst (λ (p : FirstToken). take p.look (x ∷ xs) ≡ take p.look (y ∷ ys)) (sym q) same in
    ap Some (sym (first_local m k (x ∷ xs) (y ∷ ys) same_here) ∙ q)

has_token : (m : Mode) (k : Behind) (xs : List ℕ) → begins_white m k xs ≡ true
    → (t : FirstToken) × (token_of m k xs ≡ Some t) × (10 ≤ t.look) × (0 < t.len) × (t.len ≤ t.look)
has_token m k [] e = cc
has_token m k (x ∷ xs) e = (
  first m k (x ∷ xs),
  refl,
  omega (arith, look_long m k (x ∷ xs)),
  (first_within m k (x ∷ xs) (omega arith)).0,
  first_looked m k (x ∷ xs),
)

never_none : {A : Type 0} (k : FirstToken) (o : Option FirstToken) → o ≡ None → o ≡ Some k → A
never_none k None e f = cc
never_none k (Some j) e f = cc

and_false : (a b c d e : Bool) → a ≡ false → ((((a && b) && c) && d) && e) ≡ false
and_false true b c d e h = cc
and_false false b c d e h = refl

within_from_test : (n m : ℕ) → nat_lt n m ≡ true → n < m
within_from_test n m h = grind (arith, nat_tests)

test_from_within : (n m : ℕ) → n < m → nat_lt n m ≡ true
test_from_within n m h = grind (arith, nat_tests)

-- where the end isn't seen
seen_within : (text : List ℕ) (at look : ℕ) → seen_to text at look ≤ length text → (at < length text) × (at + look ≤ length text) × (seen_to text at look ≡ at + look)
seen_within text at look = by (nat_lt at (length text)) refl
  where
    by : (b : Bool) → nat_lt at (length text) ≡ b → cond b (at + look) (length text + 1) ≤ length text → (at < length text) × (at + look ≤ length text) × (cond b (at + look) (length text + 1) ≡ at + look)
    by true e h = (within_from_test at (length text) e, h, refl)
    by false e h = absurd (omega (arith, h))

module _ (N : ℕ) (text other : List ℕ) (same : take N text ≡ take N other) (inside : N ≤ length text) where
  long : N ≤ length other
  long = omega (arith, inside, ap length same, length-take N text, length-take N other)

  parts : (at len : ℕ) → at + len ≤ N → part at len text ≡ part at len other
  parts at len e = later at len text other (take_less (at + len) N text other e same)

  starts : (n : ℕ) → n ≤ N → take n text ≡ take n other
  starts n e = take_less n N text other e same

  white_local : (m : Mode) (p : Place) → p.at + 10 ≤ N → is_white_at m p text ≡ is_white_at m p other
  white_local m p e = white_window m p.behind (drop p.at text) ∙ ap (white_of m p.behind) (parts p.at 10 e) ∙ sym (white_window m p.behind (drop p.at other))

  token_local : (m : Mode) (p : Place) (k : FirstToken) → token_at m p text ≡ Some k → p.at + k.look ≤ N → token_at m p other ≡ Some k
  token_local m p k is e = token_same m p.behind (drop p.at text) (drop p.at other) k is (parts p.at k.look e)

  tokened_local : (m : Mode) (s : Stack) → (tokened text m (token_at m s.next.place text) s).far ≤ N
      → tokened text m (token_at m s.next.place text) s ≡ tokened other m (token_at m s.next.place other) s
  tokened_local m s = by (token_at m s.next.place text) refl
    where
      by : (o : Option FirstToken) → token_at m s.next.place text ≡ o → (tokened text m o s).far ≤ N → tokened text m o s ≡ tokened other m (token_at m s.next.place other) s
      by None e low = absurd (omega (arith, low, inside))
      by (Some k) e low = sym (ap (λ o. tokened other m o s) (token_local m s.next.place k e (omega (arith, low))))

  read_local : (m : Mode) (s : Stack) → (read m text s).far ≤ N → read m text s ≡ read m other s
  read_local m s =
      let x : Stack = tokened text m (token_at m s.next.place text) s in
      let y : Stack = tokened other m (token_at m s.next.place other) s in
      elim (is_read_in m s.next.mode) as (λ b. (cond b s x).far ≤ N → cond b s x ≡ cond b s y) [ true ↦ λ low. refl | false ↦ tokened_local m s ]

  known_local : (s : Stack) → (known text s).far ≤ N → known text s ≡ known other s
  known_local s =
      let m : Mode = mode_of_space s.next.space in
      elim (is_some_mode s.next.mode) as (λ b. (cond b s (read m text s)).far ≤ N → cond b s (read m text s) ≡ cond b s (read m other s)) [ true ↦ λ low. refl | false ↦ read_local m s ]

  acts_local : (base most : ℕ) (all : List Action) (s : Stack) → IsGood base text s → s.far ≤ N → acts most text all s ≡ acts most other all s
  acts_local base most [] s h low = refl
  acts_local base most (a ∷ more) s h low =
      let u : Stack = act most (take (events_end s) text) a s in
      let end : events_end s ≤ N = elim s.next.is_flushed as (λ b. cond b s.next.place.at s.from.at ≤ N) [ true ↦ omega (arith, h.looked, low) | false ↦ omega (arith, h.order, h.looked, low) ] in
      acts_local base most more u (act_good base text most a s h) (omega (arith, low, act_far most (take (events_end s) text) a s))
      ∙ ap (λ (xs : List ℕ). acts most other more (act most xs a s)) (starts (events_end s) end)

  -- the bytes of a token that was read
  bytes_local : (base : ℕ) (s : Stack) (k : TokenKind) → IsGood base text s → s.far ≤ N → s.next.kind ≡ Some k → token_bytes text s.next ≡ token_bytes other s.next
  bytes_local base s k h low is =
      let t : IsToken text (Some k) s.next.mode s.next.place.at s.next.end s.far = subst (λ o. IsToken text o s.next.mode s.next.place.at s.next.end s.far) is h.token in
      parts s.next.place.at (s.next.end - s.next.place.at) (omega (arith, t.0, t.2, low))

  eaten_local : (base : ℕ) (take : Take) (s : Stack) → IsGood base text s → s.far ≤ N → eaten text take s ≡ eaten other take s
  eaten_local base take s h low = by s.next.kind refl
    where
      by : (o : Option TokenKind) → s.next.kind ≡ o → taken_as text take o s ≡ taken_as other take o s
      by None e = refl
      by (Some k) e = ap (λ (bs : List ℕ). put bs (events_for take k bs) (forgotten take s)) (bytes_local base s k h low e)

  taking_local : (base : ℕ) (take : Take) (s : Stack) → IsGood base text s → (eaten text take (known text s)).far ≤ N → eaten text take (known text s) ≡ eaten other take (known other s)
  taking_local base take s h low =
      let less : (known text s).far ≤ N = omega (arith, low, eaten_far text take (known text s)) in
      eaten_local base take (known text s) (known_good base text s h) less ∙ ap (eaten other take) (known_local s less)

  taken_local : (base : ℕ) (take : Take) (s : Stack) → IsGood base text s → (taken text take s).far ≤ N → taken text take s ≡ taken other take s
  taken_local base takes.Nothing s h low = refl
  taken_local base takes.Eat s h low = taking_local base takes.Eat s h low
  taken_local base (takes.EatAs kind) s h low = taking_local base (takes.EatAs kind) s h low
  taken_local base takes.Unexpected s h low = taking_local base takes.Unexpected s h low
  taken_local base (takes.Mistake what) s h low = taking_local base (takes.Mistake what) s h low

  refused_local : (base : ℕ) (fault : Fault) (s : Stack) → IsGood base text s → (refused text fault s).far ≤ N → refused text fault s ≡ refused other fault s
  refused_local base fault s h low =
      let less : (known text s).far ≤ N = omega (arith, low, refused_known text fault s) in
      by (known text s) (known_good base text s h) less (known text s).next.kind refl ∙ ap (λ (k : Stack). refused_as other fault k.next.kind k) (known_local s less)
    where
      by : (k : Stack) → IsGood base text k → k.far ≤ N → (o : Option TokenKind) → k.next.kind ≡ o → refused_as text fault o k ≡ refused_as other fault o k
      by k g less None e = refl
      by k g less (Some kind) e = ap (λ (bs : List ℕ). put bs (Error fault (length bs) ∷ []) k) (bytes_local base k kind g less e)

  row_local : (base : ℕ) (t : Table) (r : Row) (s : Stack) → IsGood base text s → (after_row t text r s).far ≤ N → after_row t text r s ≡ after_row t other r s
  row_local base t r s h low =
      let most : ℕ = t.most_levels in
      let u : Stack = acts most text r.before s in
      let v : Stack = taken text r.take u in
      let w : Stack = acts most text r.after v in
      let w_low : w.far ≤ N = omega (arith, low, called_far r.call w) in
      let v_low : v.far ≤ N = omega (arith, w_low, acts_far most text r.after v) in
      let u_low : u.far ≤ N = omega (arith, v_low, taken_far text r.take u) in
      let s_low : s.far ≤ N = omega (arith, u_low, acts_far most text r.before s) in
      let u_good : IsGood base text u = acts_good base text most r.before s h in
      let v_good : IsGood base text v = taken_good base text r.take u u_good in
      ap (called_if r.call)
      (acts_local base most r.after v v_good v_low
      ∙ ap (acts most other r.after) (taken_local base r.take u u_good v_low ∙ ap (taken other r.take) (acts_local base most r.before s h s_low)))

  followed_local : (base : ℕ) (t : Table) (o : Option Row) (s : Stack) → IsGood base text s → (followed t text o s).far ≤ N → followed t text o s ≡ followed t other o s
  followed_local base t None s h low = refused_local base faults.NoRow s h low
  followed_local base t (Some r) s h low =
      (elim (is_too_deep r.call s) as (λ b. (cond b (refused text faults.TooDeep s) (after_row t text r s)).far ≤ N
      → cond b (refused text faults.TooDeep s) (after_row t text r s) ≡ cond b (refused other faults.TooDeep s) (after_row t other r s)) [
        | true ↦ refused_local base faults.TooDeep s h
        | false ↦ row_local base t r s h
      ]) low

  looked_at_local : (base : ℕ) (t : Table) (m : Mode) (s : Stack) → IsGood base text s → (looked_at t text m s).far ≤ N → looked_at t text m s ≡ looked_at t other m s
  looked_at_local base t m s h =
      let u : Stack = read m text s in
      let w : Stack = read m other s in
      elim (is_stopped s) as (λ b. (cond b (followed t text (row_for t End s) s) (followed t text (row_for t (seen u) u) u)).far ≤ N
      → cond b (followed t text (row_for t End s) s) (followed t text (row_for t (seen u) u) u) ≡ cond b (followed t other (row_for t End s) s) (followed t other (row_for t (seen w) w) w)) [
        | true ↦ followed_local base t (row_for t End s) s h
        | false ↦ λ low.
            let less : u.far ≤ N = omega (arith, low, followed_far t text (row_for t (seen u) u) u) in
            followed_local base t (row_for t (seen u) u) u (read_good base text m s h) low ∙ ap (λ (v : Stack). followed t other (row_for t (seen v) v) v) (read_local m s less)
      ]

  over_local : (base : ℕ) (s : Stack) → IsGood base text s → s.far ≤ N → is_over text s ≡ is_over other s
  over_local base s h low = by s.next.line refl
    where
      by : (b : Bool) → s.next.line ≡ b → is_over text s ≡ is_over other s
      by true e =
          let two : take 2 (drop s.next.place.at text) ≡ take 2 (drop s.next.place.at other) = parts s.next.place.at 2 (omega (arith, h.seen e, low)) in
          let shebang : begins_with (codes "#!") (drop s.next.place.at text) ≡ begins_with (codes "#!") (drop s.next.place.at other) =
          shebang_window (drop s.next.place.at text) ∙ ap (begins_with (codes "#!")) two ∙ sym (shebang_window (drop s.next.place.at other)) in
          ap (λ v. is_between s && (s.next.place.column == 0) && (s.top.number == 0) && not v) shebang
      by false e = and_false s.next.line _ _ _ _ e ∙ sym (and_false s.next.line _ _ _ _ e)

  looked_in_local : (base : ℕ) (t : Table) (m : Mode) (s : Stack) → IsGood base text s → (looked_in t text m s).far ≤ N → looked_in t text m s ≡ looked_in t other m s
  looked_in_local base t m s h low =
      by (is_over text s) low
      ∙ ap (λ b. cond b (ended s) (looked_at t other m (between s))) (over_local base s h (omega (arith, low, looked_in_far t text m s)))
    where
      by : (b : Bool) → (cond b (ended s) (looked_at t text m (between s))).far ≤ N → cond b (ended s) (looked_at t text m (between s)) ≡ cond b (ended s) (looked_at t other m (between s))
      by true less = refl
      by false less = looked_at_local base t m (between s) (between_good base text s h) less

  -- White space before a token. As much of it may be left as there are bytes.
  skipped_local : (n k : ℕ) (m : Mode) (s : Stack) → length text - s.next.place.at ≤ n → length other - s.next.place.at ≤ k → (at_token text (skipped n m text s)).far ≤ N
      → skipped n m text s ≡ skipped k m other s
  skipped_local zero k m s enough more low = absurd (omega (arith, enough, (seen_within text s.next.place.at 10 (omega (arith, low, inside))).0))
  skipped_local (suc n) k m s enough more low = by (is_white_at m s.next.place text) refl low (λ i v e f g. skipped_local n i m v e f g)
    where
      at : ℕ
      at = s.next.place.at

      stays : (k : ℕ) → is_white_at m s.next.place other ≡ false → s ≡ skipped k m other s
      stays zero e = refl
      stays (suc k) e = sym (ap (λ b. cond b (skipped k m other (whitened other (token_at m s.next.place other) s)) s) e)

      goes_on : (k : ℕ) (v : Stack) → is_white_at m s.next.place other ≡ true → whitened other (token_at m s.next.place other) s ≡ v
          → skipped (suc k) m other s ≡ skipped k m other v
      goes_on k v e now = ap (λ b. cond b (skipped k m other (whitened other (token_at m s.next.place other) s)) s) e ∙ ap (skipped k m other) now

      white : (t : FirstToken) → token_at m s.next.place text ≡ Some t → 10 ≤ t.look → 0 < t.len → t.len ≤ t.look → is_white_at m s.next.place text ≡ true
          → (at_token text (skipped n m text (whitened text (token_at m s.next.place text) s))).far ≤ N
          → ((i : ℕ) (v : Stack) → length text - v.next.place.at ≤ n → length other - v.next.place.at ≤ i → (at_token text (skipped n m text v)).far ≤ N → skipped n m text v ≡ skipped i m other v)
          → (k : ℕ) → length other - s.next.place.at ≤ k → skipped n m text (whitened text (token_at m s.next.place text) s) ≡ skipped k m other s
      white t e long_look some len_look is low ih k more =
          let v : Stack = whitened_by (part s.next.place.at t.len text) t s in
          let u_is : whitened text (token_at m s.next.place text) s ≡ v = ap (λ o. whitened text o s) e in
          let v_low : (at_token text (skipped n m text v)).far ≤ N = subst (λ (w : Stack). (at_token text (skipped n m text w)).far ≤ N) u_is low in
          let far : s.next.place.at + t.look ≤ N = omega (arith, v_low, skipped_far n m text v) in
          let there : whitened other (token_at m s.next.place other) s ≡ v =
          ap (λ o. whitened other o s) (token_local m s.next.place t e far) ∙ ap (λ (bs : List ℕ). whitened_by bs t s) (sym (parts s.next.place.at t.len (omega (arith, far, len_look)))) in
          let white_there : is_white_at m s.next.place other ≡ true = sym (white_local m s.next.place (omega (arith, far, long_look))) ∙ is in
          ap (skipped n m text) u_is ∙ last k more v u_is v_low far white_there there
        where
          last : (k : ℕ) → length other - s.next.place.at ≤ k → (v : Stack) → whitened text (token_at m s.next.place text) s ≡ v → (at_token text (skipped n m text v)).far ≤ N
              → s.next.place.at + t.look ≤ N → is_white_at m s.next.place other ≡ true → whitened other (token_at m s.next.place other) s ≡ v → skipped n m text v ≡ skipped k m other s
          last zero more v u_is v_low far white_there there = absurd (omega (arith, more, far, long_look, long))
          last (suc k) more v u_is v_low far white_there there =
              let place : v.next.place.at ≡ s.next.place.at + t.len = sym (ap (λ (w : Stack). w.next.place.at) u_is) ∙ ap (λ o. (whitened text o s).next.place.at) e in
              ih k v (omega (arith, place, enough, some)) (omega (arith, place, more, some)) v_low ∙ sym (goes_on k v white_there there)

      by : (b : Bool) → is_white_at m s.next.place text ≡ b → (at_token text (cond b (skipped n m text (whitened text (token_at m s.next.place text) s)) s)).far ≤ N
          → ((i : ℕ) (v : Stack) → length text - v.next.place.at ≤ n → length other - v.next.place.at ≤ i → (at_token text (skipped n m text v)).far ≤ N → skipped n m text v ≡ skipped i m other v)
          → cond b (skipped n m text (whitened text (token_at m s.next.place text) s)) s ≡ skipped k m other s
      by false e low ih =
          let near = seen_within text s.next.place.at 10 (omega (arith, low, inside)) in
          stays k (sym (white_local m s.next.place (omega (arith, low, near.2))) ∙ e)
      by true e low ih =
          let t = has_token m s.next.place.behind (drop s.next.place.at text) e in
          white t.0 t.1 t.2 t.3 t.4 e low ih k more

  spaced_local : (m : Mode) (s : Stack) → (spaced m text s).far ≤ N → spaced m text s ≡ spaced m other s
  spaced_local m s =
      let u : Stack = skipped (length text) m text (unspaced m s) in
      let w : Stack = skipped (length other) m other (unspaced m s) in
      elim (is_settled s || is_alike m s.next.space) as (λ b. (cond b s (at_token text u)).far ≤ N → cond b s (at_token text u) ≡ cond b s (at_token other w)) [
        | true ↦ λ low. refl
        | false ↦ λ low.
            let near = seen_within text u.next.place.at 10 (omega (arith, low, inside)) in
            let far : seen_to text u.next.place.at 10 ≤ N = omega (arith, low) in
            let there : seen_to other u.next.place.at 10 ≡ u.next.place.at + 10 = ap (λ b. cond b (u.next.place.at + 10) (length other + 1)) (test_from_within u.next.place.at (length other) (omega (arith, far, near.2, long))) in
            ap (λ n. let v : Stack = record u { far = max u.far n } in v) (near.2 ∙ sym there)
            ∙ ap (at_token other) (skipped_local (length text) (length other) m (unspaced m s) (omega arith) (omega arith) low)
      ]

  looked_local : (base : ℕ) (t : Table) (s : Stack) → is_looking s.phase ≡ true → IsGood base text s → (looked t text s).far ≤ N → looked t text s ≡ looked t other s
  looked_local base t s now h = by (t.modes s.top.state)
    where
      by : (o : Option RowMode) → (looked_by o t text s).far ≤ N → looked_by o t text s ≡ looked_by o t other s
      by None low = followed_local base t (row_for t End s) s h low
      by (Some r) low =
          let m : Mode = lexer_mode r in
          let u : Stack = spaced m text s in
          let less : u.far ≤ N = omega (arith, low, looked_in_far t text m u) in
          looked_in_local base t m u (spaced_good base text m s now h) low ∙ ap (looked_in t other m) (spaced_local m s less)

  looks_local : (base n : ℕ) (t : Table) (s : Stack) → is_looking s.phase ≡ true → IsGood base text s → (looks n t text s).far ≤ N → looks n t text s ≡ looks n t other s
  looks_local base zero t s now h low = refused_local base faults.NoRow s h low
  looks_local base (suc n) t s now h low =
      by (is_looking (looked t text s).phase) refl low (λ e less. looks_local base n t (looked t text s) e (looked_good base t text s now h) less)
    where
      by : (b : Bool) → is_looking (looked t text s).phase ≡ b → (cond b (looks n t text (looked t text s)) (looked t text s)).far ≤ N
          → (is_looking (looked t text s).phase ≡ true → (looks n t text (looked t text s)).far ≤ N → looks n t text (looked t text s) ≡ looks n t other (looked t text s))
          → cond b (looks n t text (looked t text s)) (looked t text s) ≡ looks (suc n) t other s
      by true e low ih =
          let u : Stack = looked t text s in
          let less : u.far ≤ N = omega (arith, low, looks_far n t text u) in
          ih e low
          ∙ sym (ap (λ b. cond b (looks n t other u) u) e)
          ∙ ap (λ (w : Stack). cond (is_looking w.phase) (looks n t other w) w) (looked_local base t s now h less)
      by false e low ih =
          let u : Stack = looked t text s in
          sym (ap (λ b. cond b (looks n t other u) u) e)
          ∙ ap (λ (w : Stack). cond (is_looking w.phase) (looks n t other w) w) (looked_local base t s now h low)

  step_local : (base : ℕ) (t : Table) (s : Stack) → IsGood base text s → (step t text s).far ≤ N → step t text s ≡ step t other s
  step_local base t s h low = looks_local s.from.at t.most_looks t (looking s) refl (looking_good base text s h) low

  -- tokens up to the end of the block, of which there may be as many as bytes
  pub steps_local : (base n k : ℕ) (t : Table) (s : Stack) → IsGood base text s → length text - s.from.at < n → length other - s.from.at < k → (steps n t text s).far ≤ N
      → steps n t text s ≡ steps k t other s
  steps_local base zero k t s h enough more low = absurd (omega (arith, enough))
  steps_local base (suc n) zero t s h enough more low = absurd (omega (arith, more))
  steps_local base (suc n) (suc k) t s h enough more low =
      by (is_taken (step t text s).phase) refl low (λ e f less. steps_local s.from.at n k t (step t text s) (step_good base t text s h) e f less)
    where
      by : (b : Bool) → is_taken (step t text s).phase ≡ b → (cond b (steps n t text (step t text s)) (step t text s)).far ≤ N
          → (length text - (step t text s).from.at < n → length other - (step t text s).from.at < k → (steps n t text (step t text s)).far ≤ N → steps n t text (step t text s) ≡ steps k t other (step t text s))
          → cond b (steps n t text (step t text s)) (step t text s) ≡ steps (suc k) t other s
      by true e low ih =
          let u : Stack = step t text s in
          let g : IsGood s.from.at text u = step_good base t text s h in
          let less : u.far ≤ N = omega (arith, low, steps_far n t text u) in
          let on : s.from.at < u.from.at = g.ahead e in
          let short : u.from.at ≤ N = omega (arith, g.order, g.looked, less) in
          ih (omega (arith, enough, on, short, inside)) (omega (arith, more, on, short, long)) low
          ∙ sym (ap (λ b. cond b (steps k t other u) u) e)
          ∙ ap (λ (w : Stack). cond (is_taken w.phase) (steps k t other w) w) (step_local base t s h less)
      by false e low ih =
          let u : Stack = step t text s in
          sym (ap (λ b. cond b (steps k t other u) u) e)
          ∙ ap (λ (w : Stack). cond (is_taken w.phase) (steps k t other w) w) (step_local base t s h low)
