-- What the machine keeps of places, token by token.
use Rattle.std.proofs.Common.{◌≡◌, ℕ, zero, suc, ◌+◌, ◌-◌, ◌≤◌, ◌<◌, ◌||◌, ◌&&◌, max, Bool, true, false, cond, List, [], ◌∷◌, ◌++◌, length, take, drop, Option, Some, None, refl, sym, ap, subst, ◌∙◌, arith}
use Rattle.std.proofs.lemmas.List.{length-drop, length-take}
use Rattle.typst_base.specs.declared.kind.SyntaxKind.{SyntaxKind}
use Rattle.typst_parser.specs.Actions.{acts}
use Rattle.typst_parser.specs.Classes.{fault_of}
use Rattle.typst_parser.specs.Events.{bytes}
use Rattle.typst_parser.specs.Frames.{ended, is_looking, is_taken, looking, placed, settled}
use Rattle.typst_parser.specs.Reads.{at_token, is_alike, is_read_in, is_settled, is_some_mode, is_white_at, known, mode_of_space, part, read, seen_to, skipped, spaced, token_at, token_of, tokened, unspaced, whitened}
use Rattle.typst_parser.specs.Rows.{Table, is_stopped, lexer_mode, row_for, seen}
use Rattle.typst_parser.specs.Stack.{Stack, start}
use Rattle.typst_parser.specs.Steps.{after_row, between, called_if, eaten, followed, forgotten, is_between, is_over, is_too_deep, looked, looked_at, looked_by, looked_in, looks, put, refused, refused_as, step, steps, taken, taken_as, token_bytes}
use Rattle.typst_parser.specs.Tokens.{events_as, events_for, leaf_kind, plain_event}
use Rattle.typst_parser.specs.declared.event.Event.{Event}
use Rattle.typst_parser.specs.declared.event.Event.TheVariants.{Error, Leaf}
use Rattle.typst_parser.specs.declared.fault.Fault.{Fault}
use Rattle.typst_parser.specs.declared.fault.Fault.TheVariants as faults
use Rattle.typst_parser.specs.declared.next.Next.{Next}
use Rattle.typst_grammar.specs.Row.{Row}
use Rattle.typst_grammar.specs.declared.row.Call.{Call}
use Rattle.typst_grammar.specs.declared.row.Mode.{Mode as RowMode}
use Rattle.typst_grammar.specs.declared.row.Take.{Take}
use Rattle.typst_grammar.specs.declared.row.Take.TheVariants as takes
use Rattle.typst_grammar.specs.declared.rows.Class.TheVariants.{End}
use Rattle.typst_lexer.specs.FirstToken.{first}
use Rattle.typst_lexer.specs.Machine.{accepts, begin, stay}
use Rattle.typst_lexer.specs.declared.place.Behind.{Behind}
use Rattle.typst_lexer.proofs.Runs.{begun_len}
use Rattle.typst_lexer.specs.declared.head.FirstToken.{FirstToken}
use Rattle.typst_lexer.specs.declared.mode.Mode.{Mode}
use Rattle.typst_lexer.specs.declared.token.TokenKind.{TokenKind}
use Rattle.typst_lexer.specs.declared.token.TokenKind.TheVariants as tokens
use Rattle.typst_lexer.proofs.FirstTokens.{first_looked, first_within}
use Rattle.typst_parser.proofs.RawLaws.{raw_bytes}
use Rattle.typst_parser.proofs.Good.{IsGood, IsToken, acts_good, ended_good, next_settled, placed_bytes, push_bytes, settled_good, bytes-append}

-- a token is looked at ten bytes further than it goes
pub look_long : (m : Mode) (k : Behind) (text : List ℕ) → (first m k text).len + 10 ≤ (first m k text).look
look_long m k text = omega (arith, begun_len stay accepts 10 (begin m k) text)

-- the events of a token have its bytes
plain_bytes : (o : Option Fault) (leaf : SyntaxKind) (len : ℕ) → bytes (plain_event o leaf len ∷ []) ≡ len
plain_bytes None leaf len = omega arith
plain_bytes (Some fault) leaf len = omega arith

as_bytes : (leaf : SyntaxKind) (kind : TokenKind) (bs : List ℕ) → bytes (events_as leaf kind bs) ≡ length bs
as_bytes leaf tokens.Raw bs = raw_bytes bs
as_bytes leaf kind bs = plain_bytes (fault_of kind) leaf (length bs)

for_bytes : (take : Take) (kind : TokenKind) (bs : List ℕ) → bytes (events_for take kind bs) ≡ length bs
for_bytes (takes.EatAs leaf) kind bs = as_bytes leaf kind bs
for_bytes takes.Unexpected kind bs = omega arith
for_bytes (takes.Mistake what) kind bs = omega arith
for_bytes takes.Eat kind bs = as_bytes (leaf_kind kind) kind bs
for_bytes takes.Nothing kind bs = as_bytes (leaf_kind kind) kind bs

pub part_len : (at end : ℕ) (text : List ℕ) → at ≤ end → end ≤ length text → length (part at (end - at) text) ≡ end - at
part_len at end text order within = omega (arith, order, within, length-take (end - at) (drop at text), length-drop at text)

-- a token that is taken
put_good : (base : ℕ) (text bs : List ℕ) (es : List Event) (s : Stack) (k : TokenKind) → IsGood base text s → (settled s).next.kind ≡ Some k
    → bytes es ≡ (settled s).next.end - (settled s).next.place.at → IsGood base text (put bs es s)
put_good base text bs es s k h is len =
    let u : Stack = settled s in
    let g : IsGood base text u = settled_good base text s h in
    let t : IsToken text (Some k) u.next.mode u.next.place.at u.next.end u.far = subst (λ o. IsToken text o u.next.mode u.next.place.at u.next.end u.far) is g.token in
    let all : bytes (placed u).events ≡ u.next.place.at = placed_bytes base text u g in
    let now : bytes ((placed u).events ++ es) ≡ u.next.end = omega (arith, bytes-append (placed u).events es, all, len, t.0) in
    record {
      ends = now;
      gap = omega (arith, now);
      order = omega arith;
      within = t.1;
      looked = t.2;
      token = tt;
      rest = λ _. refl;
      line = λ e. cc;
      some = λ _ _. omega (arith, t.0);
      seen = λ e. cc;
      based = omega (arith, t.0, g.order, g.based);
      ahead = λ _. omega (arith, t.0, g.order, g.based);
    }

-- a token whose bytes become events
put_token : (base : ℕ) (text bs : List ℕ) (es : List Event) (s : Stack) (k : TokenKind) → IsGood base text s → s.next.kind ≡ Some k → bytes es ≡ length (token_bytes text s.next) → IsGood base text (put bs es s)
put_token base text bs es s k h is len =
    let t : IsToken text (Some k) s.next.mode s.next.place.at s.next.end s.far = subst (λ o. IsToken text o s.next.mode s.next.place.at s.next.end s.far) is h.token in
    put_good base text bs es s k h (ap (λ (n : Next). n.kind) (next_settled s) ∙ is)
    (len ∙ part_len s.next.place.at s.next.end text (omega (arith, t.0)) t.1 ∙ sym (ap (λ (n : Next). n.end - n.place.at) (next_settled s)))

-- a token is read at a place
tokened_good : (base : ℕ) (text : List ℕ) (m : Mode) (s : Stack) → IsGood base text s → IsGood base text (tokened text m (token_at m s.next.place text) s)
tokened_good base text m s h = by (drop s.next.place.at text) refl
  where
    by : (rest : List ℕ) → drop s.next.place.at text ≡ rest → IsGood base text (tokened text m (token_of m s.next.place.behind rest) s)
    by [] e = record {
      ends = h.ends;
      gap = h.gap;
      order = h.order;
      within = h.within;
      looked = omega (arith, h.looked);
      token = omega (arith, length-drop s.next.place.at text, ap length e);
      rest = h.rest;
      line = h.line;
      some = h.some;
      seen = λ e. omega (arith, h.seen e);
      based = h.based;
      ahead = h.ahead;
    }
    by (b ∷ bs) e =
        let k : FirstToken = first m s.next.place.behind (b ∷ bs) in
        let within : (0 < k.len) × (k.len ≤ length (b ∷ bs)) = first_within m s.next.place.behind (b ∷ bs) (omega arith) in
        let left : length text - s.next.place.at ≡ length (b ∷ bs) = sym (length-drop s.next.place.at text) ∙ ap length e in
        record {
          ends = h.ends;
          gap = h.gap;
          order = h.order;
          within = h.within;
          looked = omega (arith, h.looked);
          token = (
            omega (arith, within.0),
            omega (arith, within.0, within.1, left),
            omega (arith, first_looked m s.next.place.behind (b ∷ bs)),
          );
          rest = h.rest;
          line = h.line;
          some = h.some;
          seen = λ e. omega (arith, h.seen e);
          based = h.based;
          ahead = h.ahead;
        }

pub read_good : (base : ℕ) (text : List ℕ) (m : Mode) (s : Stack) → IsGood base text s → IsGood base text (read m text s)
read_good base text m s h = elim (is_read_in m s.next.mode) as (λ b. IsGood base text (cond b s (tokened text m (token_at m s.next.place text) s))) [ true ↦ h | false ↦ tokened_good base text m s h ]

pub known_good : (base : ℕ) (text : List ℕ) (s : Stack) → IsGood base text s → IsGood base text (known text s)
known_good base text s h = elim (is_some_mode s.next.mode) as (λ b. IsGood base text (cond b s (read (mode_of_space s.next.space) text s))) [ true ↦ h | false ↦ read_good base text (mode_of_space s.next.space) s h ]

-- Once it is known, its mode is.
tokened_mode : (text : List ℕ) (m : Mode) (o : Option FirstToken) (s : Stack) → is_some_mode (tokened text m o s).next.mode ≡ true
tokened_mode text m None s = refl
tokened_mode text m (Some k) s = refl

unread_in : (m : Mode) (o : Option Mode) → is_some_mode o ≡ false → is_read_in m o ≡ false
unread_in m None e = refl
unread_in m (Some n) e = cc

known_mode : (text : List ℕ) (s : Stack) → is_some_mode (known text s).next.mode ≡ true
known_mode text s = by (is_some_mode s.next.mode) refl
  where
    m : Mode
    m = mode_of_space s.next.space

    by : (b : Bool) → is_some_mode s.next.mode ≡ b → is_some_mode (cond b s (read (mode_of_space s.next.space) text s)).next.mode ≡ true
    by true e = e
    by false e =
        subst (λ v. is_some_mode (cond v s (tokened text (mode_of_space s.next.space) (token_at (mode_of_space s.next.space) s.next.place text) s)).next.mode ≡ true)
        (sym (unread_in (mode_of_space s.next.space) s.next.mode e))
        (tokened_mode text (mode_of_space s.next.space) (token_at (mode_of_space s.next.space) s.next.place text) s)

-- the end that was read is the end of the text
end_is : (base : ℕ) (text : List ℕ) (s : Stack) → IsGood base text s → is_some_mode s.next.mode ≡ true → s.next.kind ≡ None → length text ≤ s.next.place.at
end_is base text s h some none =
    by s.next.mode some (subst (λ o. IsToken text o s.next.mode s.next.place.at s.next.end s.far) none h.token)
  where
    by : (o : Option Mode) → is_some_mode o ≡ true → IsToken text None o s.next.place.at s.next.end s.far → length text ≤ s.next.place.at
    by None e t = cc
    by (Some m) e t = t

pub forgotten_good : (base : ℕ) (text : List ℕ) (take : Take) (s : Stack) → IsGood base text s → IsGood base text (forgotten take s)
forgotten_good base text takes.Nothing s h = h
forgotten_good base text takes.Eat s h = h
forgotten_good base text (takes.EatAs kind) s h = h
forgotten_good base text takes.Unexpected s h = h
forgotten_good base text (takes.Mistake what) s h = h

pub forgotten_next : (take : Take) (s : Stack) → (forgotten take s).next ≡ s.next
forgotten_next takes.Nothing s = refl
forgotten_next takes.Eat s = refl
forgotten_next (takes.EatAs kind) s = refl
forgotten_next takes.Unexpected s = refl
forgotten_next (takes.Mistake what) s = refl

eaten_good : (base : ℕ) (text : List ℕ) (take : Take) (s : Stack) → IsGood base text s → is_some_mode s.next.mode ≡ true → IsGood base text (eaten text take s)
eaten_good base text take s h some = by s.next.kind refl
  where
    by : (o : Option TokenKind) → s.next.kind ≡ o → IsGood base text (taken_as text take o s)
    by None e = ended_good base text s (λ more. omega (arith, more, end_is base text s h some e)) h
    by (Some k) e =
        let v : Stack = forgotten take s in
        put_token base text (token_bytes text s.next) (events_for take k (token_bytes text s.next)) v k (forgotten_good base text take s h) (ap (λ (n : Next). n.kind) (forgotten_next take s) ∙ e)
        (for_bytes take k (token_bytes text s.next) ∙ sym (ap (λ (n : Next). length (token_bytes text n)) (forgotten_next take s)))

pub taken_good : (base : ℕ) (text : List ℕ) (take : Take) (s : Stack) → IsGood base text s → IsGood base text (taken text take s)
taken_good base text takes.Nothing s h = h
taken_good base text takes.Eat s h = eaten_good base text takes.Eat (known text s) (known_good base text s h) (known_mode text s)
taken_good base text (takes.EatAs kind) s h = eaten_good base text (takes.EatAs kind) (known text s) (known_good base text s h) (known_mode text s)
taken_good base text takes.Unexpected s h = eaten_good base text takes.Unexpected (known text s) (known_good base text s h) (known_mode text s)
taken_good base text (takes.Mistake what) s h = eaten_good base text (takes.Mistake what) (known text s) (known_good base text s h) (known_mode text s)

refused_good : (base : ℕ) (text : List ℕ) (fault : Fault) (s : Stack) → IsGood base text s → IsGood base text (refused text fault s)
refused_good base text fault s h = by (known text s) (known_good base text s h) (known_mode text s) (known text s).next.kind refl
  where
    by : (k : Stack) → IsGood base text k → is_some_mode k.next.mode ≡ true → (o : Option TokenKind) → k.next.kind ≡ o → IsGood base text (refused_as text fault o k)
    by k g some None e = ended_good base text k (λ more. omega (arith, more, end_is base text k g some e)) g
    by k g some (Some kind) e = put_token base text (token_bytes text k.next) (Error fault (length (token_bytes text k.next)) ∷ []) k kind g e (omega arith)

called_good : (base : ℕ) (text : List ℕ) (o : Option Call) (s : Stack) → IsGood base text s → IsGood base text (called_if o s)
called_good base text None s h = h
called_good base text (Some c) s h = settled_good base text s h

row_good : (base : ℕ) (t : Table) (text : List ℕ) (r : Row) (s : Stack) → IsGood base text s → IsGood base text (after_row t text r s)
row_good base t text r s h =
    let u : Stack = acts t.most_levels text r.before s in
    let v : Stack = taken text r.take u in
    called_good base text r.call (acts t.most_levels text r.after v)
    (acts_good base text t.most_levels r.after v (taken_good base text r.take u (acts_good base text t.most_levels r.before s h)))

followed_good : (base : ℕ) (t : Table) (text : List ℕ) (o : Option Row) (s : Stack) → IsGood base text s → IsGood base text (followed t text o s)
followed_good base t text None s h = refused_good base text faults.NoRow s h
followed_good base t text (Some r) s h =
    elim (is_too_deep r.call s) as (λ b. IsGood base text (cond b (refused text faults.TooDeep s) (after_row t text r s))) [
      | true ↦ refused_good base text faults.TooDeep s h
      | false ↦ row_good base t text r s h
    ]

-- White space is read while a token is looked at of which nothing was read.
pub record Skips (s : Stack) : Type 0 where
  pub looking : is_looking s.phase ≡ true
  pub kind : s.next.kind ≡ None
  pub mode : s.next.mode ≡ None
  pub flushed : s.next.is_flushed ≡ false

unread_token : (text : List ℕ) (o : Option TokenKind) (m : Option Mode) (at end far : ℕ) → o ≡ None → m ≡ None → IsToken text o m at end far
unread_token text None None at end far e f = tt
unread_token text None (Some n) at end far e f = cc
unread_token text (Some k) m at end far e f = cc

never : {A : Type 0} (b : Bool) → b ≡ true → b ≡ false → A
never true e f = cc
never false e f = cc

pub whitened_good : (base : ℕ) (text : List ℕ) (m : Mode) (s : Stack) → IsGood base text s → Skips s → IsGood base text (whitened text (token_at m s.next.place text) s)
whitened_good base text m s h p = by (drop s.next.place.at text) refl
  where
    by : (rest : List ℕ) → drop s.next.place.at text ≡ rest → IsGood base text (whitened text (token_of m s.next.place.behind rest) s)
    by [] e = h
    by (b ∷ bs) e =
        let k : FirstToken = first m s.next.place.behind (b ∷ bs) in
        let within : (0 < k.len) × (k.len ≤ length (b ∷ bs)) = first_within m s.next.place.behind (b ∷ bs) (omega arith) in
        let left : length text - s.next.place.at ≡ length (b ∷ bs) = sym (length-drop s.next.place.at text) ∙ ap length e in
        record {
          ends = h.ends ∙ ap (λ v. cond v s.next.place.at s.from.at) p.flushed ∙ sym (ap (λ v. cond v (s.next.place.at + k.len) s.from.at) p.flushed);
          gap = omega (arith, h.gap, push_bytes s.white (Leaf (leaf_kind k.kind) k.len));
          order = omega (arith, h.order);
          within = omega (arith, within.0, within.1, left);
          looked = omega (arith, first_looked m s.next.place.behind (b ∷ bs));
          token = unread_token text s.next.kind s.next.mode (s.next.place.at + k.len) s.next.end (max s.far (s.next.place.at + k.look)) p.kind p.mode;
          rest = λ f. never (is_looking s.phase) p.looking f;
          line = λ _. omega (arith, within.0);
          some = h.some;
          seen = λ _. omega (arith, look_long m s.next.place.behind (b ∷ bs));
          based = h.based;
          ahead = h.ahead;
        }

pub whitened_skips : (text : List ℕ) (o : Option FirstToken) (s : Stack) → Skips s → Skips (whitened text o s)
whitened_skips text None s p = p
whitened_skips text (Some k) s p = record { looking = p.looking; kind = p.kind; mode = p.mode; flushed = p.flushed }

skipped_good : (base : ℕ) (n : ℕ) (m : Mode) (text : List ℕ) (s : Stack) → IsGood base text s → Skips s → IsGood base text (skipped n m text s) × Skips (skipped n m text s)
skipped_good base zero m text s h p = (h, p)
skipped_good base (suc n) m text s h p =
    let u : Stack = whitened text (token_at m s.next.place text) s in
    elim (is_white_at m s.next.place text) as (λ b. IsGood base text (cond b (skipped n m text u) s) × Skips (cond b (skipped n m text u) s)) [
      | true ↦ skipped_good base n m text u (whitened_good base text m s h p) (whitened_skips text (token_at m s.next.place text) s p)
      | false ↦ (h, p)
    ]

at_token_good : (base : ℕ) (text : List ℕ) (s : Stack) → IsGood base text s → Skips s → IsGood base text (at_token text s)
at_token_good base text s h p = record {
  ends = h.ends;
  gap = h.gap;
  order = h.order;
  within = h.within;
  looked = omega (arith, h.looked);
  token = unread_token text s.next.kind s.next.mode s.next.place.at s.next.end (max s.far (seen_to text s.next.place.at 10)) p.kind p.mode;
  rest = h.rest;
  line = h.line;
  some = h.some;
  seen = λ e. omega (arith, h.seen e);
  based = h.based;
  ahead = h.ahead;
}

pub unspaced_good : (base : ℕ) (text : List ℕ) (m : Mode) (s : Stack) → is_looking s.phase ≡ true → s.next.is_flushed ≡ false → IsGood base text s → IsGood base text (unspaced m s)
unspaced_good base text m s looking flag h =
    let ends : bytes s.events ≡ s.from.at = h.ends ∙ ap (λ v. cond v s.next.place.at s.from.at) flag in
    record {
      ends = ends;
      gap = omega (arith, ends);
      order = omega arith;
      within = omega (arith, h.order, h.within);
      looked = omega (arith, h.order, h.looked);
      token = tt;
      rest = λ _. refl;
      line = λ e. cc;
      some = h.some;
      seen = λ e. cc;
      based = h.based;
      ahead = h.ahead;
    }

pub unflushed : (f g h : Bool) → ((f || g) || h) ≡ false → f ≡ false
unflushed true g h e = cc
unflushed false g h e = refl

pub spaced_good : (base : ℕ) (text : List ℕ) (m : Mode) (s : Stack) → is_looking s.phase ≡ true → IsGood base text s → IsGood base text (spaced m text s)
spaced_good base text m s looking h = by (is_settled s || is_alike m s.next.space) refl
  where
    by : (b : Bool) → (is_settled s || is_alike m s.next.space) ≡ b → IsGood base text (cond b s (at_token text (skipped (length text) m text (unspaced m s))))
    by true e = h
    by false e =
        let flag : s.next.is_flushed ≡ false = unflushed s.next.is_flushed _ _ e in
        let skips : Skips (unspaced m s) = record { looking = looking; kind = refl; mode = refl; flushed = refl } in
        let both = skipped_good base (length text) m text (unspaced m s) (unspaced_good base text m s looking flag h) skips in
        at_token_good base text (skipped (length text) m text (unspaced m s)) both.0 both.1

pub between_good : (base : ℕ) (text : List ℕ) (s : Stack) → IsGood base text s → IsGood base text (between s)
between_good base text s h = elim (is_between s) as (λ b. IsGood base text (cond b (settled s) s)) [ true ↦ settled_good base text s h | false ↦ h ]

looked_at_good : (base : ℕ) (t : Table) (text : List ℕ) (m : Mode) (s : Stack) → IsGood base text s → IsGood base text (looked_at t text m s)
looked_at_good base t text m s h =
    let u : Stack = read m text s in
    elim (is_stopped s) as (λ b. IsGood base text (cond b (followed t text (row_for t End s) s) (followed t text (row_for t (seen u) u) u))) [
      | true ↦ followed_good base t text (row_for t End s) s h
      | false ↦ followed_good base t text (row_for t (seen u) u) u (read_good base text m s h)
    ]

over_line : (a b c d e : Bool) → ((((a && b) && c) && d) && e) ≡ true → a ≡ true
over_line true b c d e h = refl
over_line false b c d e h = cc

looked_in_good : (base : ℕ) (t : Table) (text : List ℕ) (m : Mode) (s : Stack) → IsGood base text s → IsGood base text (looked_in t text m s)
looked_in_good base t text m s h = by (is_over text s) refl
  where
    by : (b : Bool) → is_over text s ≡ b → IsGood base text (cond b (ended s) (looked_at t text m (between s)))
    by true e = ended_good base text s (λ _. h.line (over_line s.next.line _ _ _ _ e)) h
    by false e = looked_at_good base t text m (between s) (between_good base text s h)

pub looked_good : (base : ℕ) (t : Table) (text : List ℕ) (s : Stack) → is_looking s.phase ≡ true → IsGood base text s → IsGood base text (looked t text s)
looked_good base t text s looking h = by (t.modes s.top.state)
  where
    by : (o : Option RowMode) → IsGood base text (looked_by o t text s)
    by None = followed_good base t text (row_for t End s) s h
    by (Some m) = looked_in_good base t text (lexer_mode m) (spaced (lexer_mode m) text s) (spaced_good base text (lexer_mode m) s looking h)

looks_good : (base : ℕ) (n : ℕ) (t : Table) (text : List ℕ) (s : Stack) → is_looking s.phase ≡ true → IsGood base text s → IsGood base text (looks n t text s)
looks_good base zero t text s now h = refused_good base text faults.NoRow s h
looks_good base (suc n) t text s now h = by (is_looking (looked t text s).phase) refl (λ e. looks_good base n t text (looked t text s) e (looked_good base t text s now h))
  where
    by : (b : Bool) → is_looking (looked t text s).phase ≡ b → (is_looking (looked t text s).phase ≡ true → IsGood base text (looks n t text (looked t text s)))
        → IsGood base text (cond b (looks n t text (looked t text s)) (looked t text s))
    by true e more = more e
    by false e more = looked_good base t text s now h

-- Each token goes on behind the one before it.
pub looking_good : (base : ℕ) (text : List ℕ) (s : Stack) → IsGood base text s → IsGood s.from.at text (looking s)
looking_good base text s h = record {
  ends = h.ends;
  gap = h.gap;
  order = h.order;
  within = h.within;
  looked = h.looked;
  token = h.token;
  rest = λ e. cc;
  line = h.line;
  some = λ e. cc;
  seen = h.seen;
  based = omega arith;
  ahead = λ e. cc;
}

pub step_good : (base : ℕ) (t : Table) (text : List ℕ) (s : Stack) → IsGood base text s → IsGood s.from.at text (step t text s)
step_good base t text s h = looks_good s.from.at t.most_looks t text (looking s) refl (looking_good base text s h)

rebased : (base : ℕ) (text : List ℕ) (s : Stack) → IsGood base text s → IsGood 0 text s
rebased base text s h = record {
  ends = h.ends;
  gap = h.gap;
  order = h.order;
  within = h.within;
  looked = h.looked;
  token = h.token;
  rest = h.rest;
  line = h.line;
  some = h.some;
  seen = h.seen;
  based = omega arith;
  ahead = λ e. omega (arith, h.ahead e);
}

pub steps_good : (base : ℕ) (n : ℕ) (t : Table) (text : List ℕ) (s : Stack) → IsGood base text s → IsGood 0 text (steps n t text s)
steps_good base zero t text s h = rebased base text s h
steps_good base (suc n) t text s h =
    let u : Stack = step t text s in
    let g : IsGood s.from.at text u = step_good base t text s h in
    elim (is_taken u.phase) as (λ b. IsGood 0 text (cond b (steps n t text u) u)) [ true ↦ steps_good s.from.at n t text u g | false ↦ rebased s.from.at text u g ]

pub start_good : (text : List ℕ) (room : ℕ) → IsGood 0 text (start room)
start_good text room = record {
  ends = refl;
  gap = omega arith;
  order = omega arith;
  within = omega arith;
  looked = omega arith;
  token = tt;
  rest = λ e. cc;
  line = λ e. cc;
  some = λ e. cc;
  seen = λ e. cc;
  based = omega arith;
  ahead = λ e. cc;
}

-- after a step the token isn't looked at any more
refused_done : (text : List ℕ) (fault : Fault) (o : Option TokenKind) (s : Stack) → is_looking (refused_as text fault o s).phase ≡ false
refused_done text fault None s = refl
refused_done text fault (Some k) s = refl

looks_done : (n : ℕ) (t : Table) (text : List ℕ) (s : Stack) → is_looking (looks n t text s).phase ≡ false
looks_done zero t text s = refused_done text faults.NoRow (known text s).next.kind (known text s)
looks_done (suc n) t text s = by (is_looking (looked t text s).phase) refl (looks_done n t text (looked t text s))
  where
    by : (b : Bool) → is_looking (looked t text s).phase ≡ b → is_looking (looks n t text (looked t text s)).phase ≡ false
        → is_looking (cond b (looks n t text (looked t text s)) (looked t text s)).phase ≡ false
    by true e more = more
    by false e more = e

steps_done : (n : ℕ) (t : Table) (text : List ℕ) (s : Stack) → is_looking s.phase ≡ false → is_looking (steps n t text s).phase ≡ false
steps_done zero t text s e = e
steps_done (suc n) t text s e =
    let u : Stack = step t text s in
    let done : is_looking u.phase ≡ false = looks_done t.most_looks t text (looking s) in
    elim (is_taken u.phase) as (λ b. is_looking (cond b (steps n t text u) u).phase ≡ false) [ true ↦ steps_done n t text u done | false ↦ done ]

pub some_steps_done : (n : ℕ) (t : Table) (text : List ℕ) (s : Stack) → is_looking (steps (suc n) t text s).phase ≡ false
some_steps_done n t text s =
    let u : Stack = step t text s in
    let done : is_looking u.phase ≡ false = looks_done t.most_looks t text (looking s) in
    elim (is_taken u.phase) as (λ b. is_looking (cond b (steps n t text u) u).phase ≡ false) [ true ↦ steps_done n t text u done | false ↦ done ]
