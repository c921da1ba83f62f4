-- Each event ends where the text can be cut.
use Rattle.std.proofs.Common.{◌≡◌, ℕ, zero, suc, ◌+◌, ◌-◌, ◌≤◌, ◌||◌, ◌==◌, nat_lt, Bool, true, false, cond, List, [], ◌∷◌, ◌++◌, length, take, drop, Option, Some, None, refl, sym, subst, arith}
use Rattle.std.proofs.lemmas.Str.{IsCharBoundary-from_rest, IsCharBoundary-start}
use Rattle.std.specs.Str.{IsCharBoundary, IsUtf8}
use Rattle.typst_base.specs.declared.kind.SyntaxKind.{SyntaxKind}
use Rattle.typst_base.specs.declared.kind.SyntaxKind.TheVariants as kinds
use Rattle.typst_parser.specs.Actions.{act, acts, as_kind, as_unclosed, changed, delimited, expected_once, flushed, is_error_kind, joined, returned_by, wrapped}
use Rattle.typst_parser.specs.Classes.{fault_of}
use Rattle.typst_parser.specs.Events.{bytes, bytes_of, CanBeCut, CanBeCutFrom}
use Rattle.typst_parser.specs.Frames.{ended, events_end, is_looking, is_taken, looking, placed, pushed, settled, settled_by}
use Rattle.typst_parser.specs.Last.{last_of}
use Rattle.typst_parser.specs.Lists.{changed_at}
use Rattle.typst_parser.specs.Mistakes.{mistaken}
use Rattle.typst_parser.specs.Reads.{at_token, is_alike, is_read_in, is_settled, is_some_mode, is_white_at, known, mode_of_space, part, read, skipped, spaced, token_at, token_of, tokened, unspaced, whitened}
use Rattle.typst_parser.specs.Retag.{retagged}
use Rattle.typst_parser.specs.Rows.{Table, is_last, is_stopped, lexer_mode, row_for, seen}
use Rattle.typst_parser.specs.Stack.{Stack, start}
use Rattle.typst_parser.specs.Steps.{after_row, between, called_if, eaten, followed, forgotten, is_between, is_over, is_too_deep, looked, looked_at, looked_by, looked_in, looks, put, refused, refused_as, step, steps, taken, taken_as, token_bytes}
use Rattle.typst_parser.specs.Tokens.{events_as, events_for, leaf_kind, mistake_of, plain_event, unexpected_of}
use Rattle.typst_parser.specs.Unique.{made_unique}
use Rattle.typst_parser.specs.declared.event.Event.{Event}
use Rattle.typst_parser.specs.declared.event.Event.TheVariants.{Error, Leaf, Node}
use Rattle.typst_parser.specs.declared.fault.Fault.{Fault}
use Rattle.typst_parser.specs.declared.fault.Fault.TheVariants as faults
use Rattle.typst_parser.specs.declared.next.Next.{Next}
use Rattle.typst_parser.specs.declared.next.Place.{Place}
use Rattle.typst_parser.specs.declared.stack.Frame.{Frame}
use Rattle.typst_grammar.specs.Row.{Row}
use Rattle.typst_grammar.specs.declared.expectation.Expectation.{Expectation}
use Rattle.typst_grammar.specs.declared.row.Action.{Action}
use Rattle.typst_grammar.specs.declared.row.Action.TheVariants as actions
use Rattle.typst_grammar.specs.declared.row.Call.{Call}
use Rattle.typst_grammar.specs.declared.row.Mode.{Mode as RowMode}
use Rattle.typst_grammar.specs.declared.row.Take.{Take}
use Rattle.typst_grammar.specs.declared.row.Take.TheVariants as takes
use Rattle.typst_grammar.specs.declared.rows.Class.TheVariants.{End}
use Rattle.typst_lexer.specs.FirstToken.{first}
use Rattle.typst_lexer.specs.declared.head.FirstToken.{FirstToken}
use Rattle.typst_lexer.specs.declared.mode.Mode.{Mode}
use Rattle.typst_lexer.specs.declared.token.TokenKind.{TokenKind}
use Rattle.typst_lexer.specs.declared.token.TokenKind.TheVariants as tokens
use Rattle.typst_lexer.proofs.FirstTokens.{first_boundary}
use Rattle.typst_parser.proofs.Uniques.{unique_bytes, unique_cut}
use Rattle.typst_parser.proofs.RawCuts.{raw_cut_in}
use Rattle.typst_parser.proofs.Good.{IsGood, IsToken, act_good, acts_good, before_fits, kind_bytes, next_settled, placed_bytes, push_bytes, settled_good, unclosed_bytes}
use Rattle.typst_parser.proofs.Mistaking.{mistaken_bytes, mistaken_cut}
use Rattle.typst_parser.proofs.Placing.{Skips, between_good, forgotten_good, forgotten_next, known_good, looked_good, looking_good, part_len, read_good, spaced_good, step_good, taken_good, unflushed, unspaced_good, whitened_good, whitened_skips}
use Rattle.typst_parser.proofs.Retags.{cut_push, from-append, retag_bytes, retag_cut}

-- the end of a token that was read
abbrev pub IsCutEnd : List ℕ → Option TokenKind → ℕ → Type 0
IsCutEnd text None end = Unit {0}
IsCutEnd text (Some k) end = IsCharBoundary text end

pub record Cut (text : List ℕ) (events white : List Event) (from : Place) (next : Next) : Type 0 where
  pub made : CanBeCut text events
  pub gap : CanBeCutFrom (bytes events) text white
  pub behind : IsCharBoundary text from.at
  pub before : IsCharBoundary text next.place.at
  pub end : IsCutEnd text next.kind next.end

abbrev pub IsCut : List ℕ → Stack → Type 0
IsCut text s = Cut text s.events s.white s.from s.next

-- where the events end
end_cut : (base : ℕ) (text : List ℕ) (s : Stack) → IsGood base text s → IsCut text s → IsCharBoundary text (bytes s.events)
end_cut base text s h p =
    subst (IsCharBoundary text) (sym h.ends) (elim s.next.is_flushed as (λ b. IsCharBoundary text (cond b s.next.place.at s.from.at)) [ true ↦ p.before | false ↦ p.behind ])

-- other events with as many bytes
same_cut : (text : List ℕ) (es fs ws : List Event) (from : Place) (next : Next) → bytes fs ≡ bytes es → CanBeCut text fs → Cut text es ws from next → Cut text fs ws from next
same_cut text es fs ws from next same made p = record {
  made = made;
  gap = subst (λ n. CanBeCutFrom n text ws) (sym same) p.gap;
  behind = p.behind;
  before = p.before;
  end = p.end;
}

-- an event without bytes more
empty_cut : (base : ℕ) (text : List ℕ) (s : Stack) (e : Event) → bytes_of e ≡ 0 → IsGood base text s → IsCut text s → Cut text (s.events ++ e ∷ []) s.white s.from s.next
empty_cut base text s e none h p =
    let same : bytes s.events ≡ bytes s.events + bytes_of e = omega (arith, none) in
    same_cut text s.events (s.events ++ e ∷ []) s.white s.from s.next (omega (arith, push_bytes s.events e, none))
    (cut_push text s.events e p.made (subst (IsCharBoundary text) same (end_cut base text s h p))) p

settled_by_cut : (base : ℕ) (text : List ℕ) (o : Option Expectation) (s : Stack) → IsGood base text s → IsCut text s → IsCut text (settled_by o s)
settled_by_cut base text None s h p = p
settled_by_cut base text (Some what) s h p = empty_cut base text s (Error (faults.Expected what) 0) refl h p

settled_cut : (base : ℕ) (text : List ℕ) (s : Stack) → IsGood base text s → IsCut text s → IsCut text (settled s)
settled_cut base text s h p = settled_by_cut base text s.missing s h p

placed_made : (text : List ℕ) (s : Stack) → IsCut text s → CanBeCut text (placed s).events
placed_made text s p =
    let same : bytes s.events ≡ 0 + bytes s.events = omega arith in
    from-append 0 text s.events s.white p.made (subst (λ n. CanBeCutFrom n text s.white) same p.gap)

flushed_cut : (base : ℕ) (text : List ℕ) (s : Stack) → IsGood base text s → IsCut text s → IsCut text (flushed s)
flushed_cut base text s h p =
    let q : IsCut text (settled s) = settled_cut base text s h p in
    record { made = placed_made text (settled s) q; gap = tt; behind = q.behind; before = q.before; end = q.end }

ended_cut : (base : ℕ) (text : List ℕ) (s : Stack) → IsGood base text s → IsCut text s → IsCut text (ended s)
ended_cut base text s h p =
    let q : IsCut text (settled s) = settled_cut base text s h p in
    record { made = placed_made text (settled s) q; gap = tt; behind = q.before; before = q.before; end = q.end }

returned_cut : (text : List ℕ) (o : Option (List Frame × Frame)) (s : Stack) → IsCut text s → IsCut text (returned_by o s)
returned_cut text None s p = p
returned_cut text (Some f) s p = p

wrapped_cut : (base : ℕ) (text : List ℕ) (most : ℕ) (kind : SyntaxKind) (s : Stack) → IsGood base text s → IsCut text s → IsCut text (wrapped most kind s)
wrapped_cut base text most kind s h p =
    elim (is_error_kind kind) as (λ b. IsCut text (cond b s (cond (nat_lt s.top.levels most) (joined kind s) (pushed (Error faults.TooTall 0) s)))) [
      | true ↦ p
      | false ↦ elim (nat_lt s.top.levels most) as (λ b. IsCut text (cond b (joined kind s) (pushed (Error faults.TooTall 0) s))) [
        | true ↦ empty_cut base text s (Node kind s.top.trees) refl h p
        | false ↦ empty_cut base text s (Error faults.TooTall 0) refl h p
      ]
    ]

expected_cut : (text : List ℕ) (o : Option Expectation) (what : Expectation) (s : Stack) → IsCut text s → IsCut text (expected_once o what s)
expected_cut text (Some old) what s p = p
expected_cut text None what s p = elim (is_last kinds.Error s.events) as (λ b. IsCut text (cond b s (record s { missing = Some what }))) [ true ↦ p | false ↦ p ]

changed_cut : (text : List ℕ) (f : List Event → List Event) (s : Stack) → bytes (f s.events) ≡ bytes s.events → CanBeCut text (f s.events) → IsCut text s → IsCut text (changed f s)
changed_cut text f s same made p =
    elim (s.top.trees == 0) as (λ b. IsCut text (cond b s (record s { events = f s.events }))) [
      | true ↦ p
      | false ↦ same_cut text s.events (f s.events) s.white s.from s.next same made p
    ]

kind_cut : (kind : SyntaxKind) (text : List ℕ) (n i : ℕ) (es : List Event) → CanBeCutFrom n text es → CanBeCutFrom n text (changed_at (as_kind kind) i es)
kind_cut kind text n i [] p = tt
kind_cut kind text n zero (Leaf old len ∷ es) p = p
kind_cut kind text n zero (Error fault len ∷ es) p = p
kind_cut kind text n zero (Node old children ∷ es) p = p
kind_cut kind text n (suc i) (e ∷ es) p = (p.0, kind_cut kind text (n + bytes_of e) i es p.1)

delimited_cut : (text : List ℕ) (first last : SyntaxKind) (s : Stack) → IsCut text s → IsCut text (delimited first last s)
delimited_cut text first last s p =
    let one : Stack = changed (changed_at (as_kind first) s.top.start) s in
    let q : IsCut text one =
    changed_cut text (changed_at (as_kind first) s.top.start) s (kind_bytes first s.top.start s.events) (kind_cut first text 0 s.top.start s.events p.made) p in
    changed_cut text (changed_at (as_kind last) (length s.events - 1)) one (kind_bytes last (length s.events - 1) one.events)
    (kind_cut last text 0 (length s.events - 1) one.events q.made) q

unclosed_cut : (text : List ℕ) (n i : ℕ) (es : List Event) → CanBeCutFrom n text es → CanBeCutFrom n text (changed_at as_unclosed i es)
unclosed_cut text n i [] p = tt
unclosed_cut text n zero (Leaf kind len ∷ es) p = p
unclosed_cut text n zero (Error fault len ∷ es) p = p
unclosed_cut text n zero (Node kind children ∷ es) p = p
unclosed_cut text n (suc i) (e ∷ es) p = (p.0, unclosed_cut text (n + bytes_of e) i es p.1)

act_cut : (base : ℕ) (text : List ℕ) (most : ℕ) (a : Action) (s : Stack) → IsGood base text s → IsCut text s → IsCut text (act most (take (events_end s) text) a s)
act_cut base text most (actions.Goto state) s h p = p
act_cut base text most actions.Return s h p = returned_cut text (last_of s.below) s p
act_cut base text most (actions.Around state number) s h p = settled_cut base text s h p
act_cut base text most (actions.Wrap kind) s h p = wrapped_cut base text most kind (settled s) (settled_good base text s h) (settled_cut base text s h p)
act_cut base text most actions.Flush s h p = flushed_cut base text s h p
act_cut base text most actions.Up s h p = p
act_cut base text most actions.Down s h p = p
act_cut base text most (actions.Expected what) s h p = expected_cut text s.missing what s p
act_cut base text most (actions.Wrong what) s h p =
    let q : IsCut text (settled s) = settled_cut base text s h p in
    let end : ℕ = length (take (events_end s) text) in
    changed_cut text (mistaken what end) (settled s) (mistaken_bytes what end (settled s).events (before_fits base text s h))
    (mistaken_cut what end text (settled s).events (before_fits base text s h) q.made) q
act_cut base text most (actions.Delimit first last) s h p = delimited_cut text first last (settled s) (settled_cut base text s h p)
act_cut base text most actions.Unclosed s h p =
    let q : IsCut text (settled s) = settled_cut base text s h p in
    changed_cut text (changed_at as_unclosed (settled s).top.start) (settled s) (unclosed_bytes (settled s).top.start (settled s).events)
    (unclosed_cut text 0 (settled s).top.start (settled s).events q.made) q
act_cut base text most (actions.Retag map) s h p =
    let q : IsCut text (settled s) = settled_cut base text s h p in
    let end : ℕ = length (take (events_end s) text) in
    changed_cut text (retagged map end) (settled s) (retag_bytes map end (settled s).events (before_fits base text s h))
    (retag_cut map text end (settled s).events (before_fits base text s h) q.made) q
act_cut base text most (actions.Unique what) s h p =
    let q : IsCut text (settled s) = settled_cut base text s h p in
    changed_cut text (made_unique what (take (events_end s) text)) (settled s) (unique_bytes what (take (events_end s) text) (settled s).events (before_fits base text s h))
    (unique_cut what text (take (events_end s) text) (settled s).events (before_fits base text s h) q.made) q

acts_cut : (base : ℕ) (text : List ℕ) (most : ℕ) (all : List Action) (s : Stack) → IsGood base text s → IsCut text s → IsCut text (acts most text all s)
acts_cut base text most [] s h p = p
acts_cut base text most (a ∷ more) s h p = acts_cut base text most more (act most (take (events_end s) text) a s) (act_good base text most a s h) (act_cut base text most a s h p)

-- the events of a token end where the token does
one_cut : (text : List ℕ) (at end : ℕ) (e : Event) → at + bytes_of e ≡ end → IsCharBoundary text end → CanBeCutFrom at text (e ∷ [])
one_cut text at end e is cut = (subst (IsCharBoundary text) (sym is) cut, tt)

module _ (text : List ℕ) (utf8 : IsUtf8 text) (at end : ℕ) (order : at ≤ end) (within : end ≤ length text) (begin : IsCharBoundary text at) (cut : IsCharBoundary text end) where
  bs : List ℕ
  bs = part at (end - at) text

  len_is : at + length (part at (end - at) text) ≡ end
  len_is = omega (arith, part_len at end text order within, order)

  plain_cut : (o : Option Fault) (leaf : SyntaxKind) → CanBeCutFrom at text (plain_event o leaf (length (part at (end - at) text)) ∷ [])
  plain_cut None leaf = one_cut text at end (Leaf leaf (length (part at (end - at) text))) len_is cut
  plain_cut (Some fault) leaf = one_cut text at end (Error fault (length (part at (end - at) text))) len_is cut

  as_cut : (leaf : SyntaxKind) (kind : TokenKind) → CanBeCutFrom at text (events_as leaf kind (part at (end - at) text))
  as_cut leaf tokens.Raw =
      let whole : end ≡ at + (end - at) = omega (arith, order) in
      raw_cut_in text at (end - at) utf8 begin (subst (IsCharBoundary text) whole cut)
  as_cut leaf kind = plain_cut (fault_of kind) leaf

  pub for_cut : (take : Take) (kind : TokenKind) → CanBeCutFrom at text (events_for take kind (part at (end - at) text))
  for_cut (takes.EatAs leaf) kind = as_cut leaf kind
  for_cut takes.Unexpected kind = plain_cut (Some (unexpected_of kind)) kinds.Text
  for_cut (takes.Mistake what) kind = plain_cut (Some (mistake_of what kind)) kinds.Text
  for_cut takes.Eat kind = as_cut (leaf_kind kind) kind
  for_cut takes.Nothing kind = as_cut (leaf_kind kind) kind

  pub error_cut : (fault : Fault) → CanBeCutFrom at text (Error fault (length (part at (end - at) text)) ∷ [])
  error_cut fault = plain_cut (Some fault) kinds.Text

put_cut : (base : ℕ) (text bs : List ℕ) (es : List Event) (s : Stack) → IsGood base text s → IsCut text s → IsCharBoundary text s.next.end
    → CanBeCutFrom s.next.place.at text es → IsCut text (put bs es s)
put_cut base text bs es s h p end made =
    let u : Stack = settled s in
    let g : IsGood base text u = settled_good base text s h in
    let q : IsCut text u = settled_cut base text s h p in
    let there : u.next.place.at ≡ 0 + bytes (placed u).events = omega (arith, placed_bytes base text u g) in
    let now : CanBeCutFrom u.next.place.at text es = subst (λ (n : Next). CanBeCutFrom n.place.at text es) (sym (next_settled s)) made in
    let last : IsCharBoundary text u.next.end = subst (λ (n : Next). IsCharBoundary text n.end) (sym (next_settled s)) end in
    record {
      made = from-append 0 text (placed u).events es (placed_made text u q) (subst (λ n. CanBeCutFrom n text es) there now);
      gap = tt;
      behind = last;
      before = last;
      end = tt;
    }

-- what is read ends where the text can be cut
token_cut : (base : ℕ) (text : List ℕ) (m : Mode) (s : Stack) → IsGood base text s → (b : ℕ) (bs : List ℕ) → drop s.next.place.at text ≡ b ∷ bs
    → IsCharBoundary text (s.next.place.at + (first m s.next.place.behind (b ∷ bs)).len)
token_cut base text m s h b bs e =
    IsCharBoundary-from_rest text s.next.place.at (first m s.next.place.behind (b ∷ bs)).len h.within
    (subst (λ (xs : List ℕ). IsCharBoundary xs (first m s.next.place.behind (b ∷ bs)).len) (sym e) (first_boundary m s.next.place.behind (b ∷ bs)))

tokened_cut : (base : ℕ) (text : List ℕ) (m : Mode) (s : Stack) → IsGood base text s → IsCut text s → IsCut text (tokened text m (token_at m s.next.place text) s)
tokened_cut base text m s h p = by (drop s.next.place.at text) refl
  where
    by : (rest : List ℕ) → drop s.next.place.at text ≡ rest → IsCut text (tokened text m (token_of m s.next.place.behind rest) s)
    by [] e = record { made = p.made; gap = p.gap; behind = p.behind; before = p.before; end = tt }
    by (b ∷ bs) e = record { made = p.made; gap = p.gap; behind = p.behind; before = p.before; end = token_cut base text m s h b bs e }

read_cut : (base : ℕ) (text : List ℕ) (m : Mode) (s : Stack) → IsGood base text s → IsCut text s → IsCut text (read m text s)
read_cut base text m s h p = elim (is_read_in m s.next.mode) as (λ b. IsCut text (cond b s (tokened text m (token_at m s.next.place text) s))) [ true ↦ p | false ↦ tokened_cut base text m s h p ]

known_cut : (base : ℕ) (text : List ℕ) (s : Stack) → IsGood base text s → IsCut text s → IsCut text (known text s)
known_cut base text s h p = elim (is_some_mode s.next.mode) as (λ b. IsCut text (cond b s (read (mode_of_space s.next.space) text s))) [ true ↦ p | false ↦ read_cut base text (mode_of_space s.next.space) s h p ]

forgotten_cut : (text : List ℕ) (take : Take) (s : Stack) → IsCut text s → IsCut text (forgotten take s)
forgotten_cut text takes.Nothing s p = p
forgotten_cut text takes.Eat s p = p
forgotten_cut text (takes.EatAs kind) s p = p
forgotten_cut text takes.Unexpected s p = p
forgotten_cut text (takes.Mistake what) s p = p

module _ (base : ℕ) (text : List ℕ) (utf8 : IsUtf8 text) where
  eaten_cut : (take : Take) (s : Stack) → IsGood base text s → IsCut text s → IsCut text (eaten text take s)
  eaten_cut take s h p = by s.next.kind refl
    where
      by : (o : Option TokenKind) → s.next.kind ≡ o → IsCut text (taken_as text take o s)
      by None e = ended_cut base text s h p
      by (Some k) e =
          let v : Stack = forgotten take s in
          let t : IsToken text (Some k) s.next.mode s.next.place.at s.next.end s.far = subst (λ o. IsToken text o s.next.mode s.next.place.at s.next.end s.far) e h.token in
          let c : IsCharBoundary text s.next.end = subst (λ o. IsCutEnd text o s.next.end) e p.end in
          let same : v.next ≡ s.next = forgotten_next take s in
          put_cut base text (token_bytes text s.next) (events_for take k (token_bytes text s.next)) v (forgotten_good base text take s h) (forgotten_cut text take s p)
          (subst (λ (n : Next). IsCharBoundary text n.end) (sym same) c)
          (subst (λ (n : Next). CanBeCutFrom n.place.at text (events_for take k (token_bytes text s.next))) (sym same)
          (for_cut text utf8 s.next.place.at s.next.end (omega (arith, t.0)) t.1 p.before c take k))

  taken_cut : (take : Take) (s : Stack) → IsGood base text s → IsCut text s → IsCut text (taken text take s)
  taken_cut takes.Nothing s h p = p
  taken_cut takes.Eat s h p = eaten_cut takes.Eat (known text s) (known_good base text s h) (known_cut base text s h p)
  taken_cut (takes.EatAs kind) s h p = eaten_cut (takes.EatAs kind) (known text s) (known_good base text s h) (known_cut base text s h p)
  taken_cut takes.Unexpected s h p = eaten_cut takes.Unexpected (known text s) (known_good base text s h) (known_cut base text s h p)
  taken_cut (takes.Mistake what) s h p = eaten_cut (takes.Mistake what) (known text s) (known_good base text s h) (known_cut base text s h p)

  refused_cut : (fault : Fault) (s : Stack) → IsGood base text s → IsCut text s → IsCut text (refused text fault s)
  refused_cut fault s h p = by (known text s) (known_good base text s h) (known_cut base text s h p) (known text s).next.kind refl
    where
      by : (k : Stack) → IsGood base text k → IsCut text k → (o : Option TokenKind) → k.next.kind ≡ o → IsCut text (refused_as text fault o k)
      by k g q None e = ended_cut base text k g q
      by k g q (Some kind) e =
          let t : IsToken text (Some kind) k.next.mode k.next.place.at k.next.end k.far = subst (λ o. IsToken text o k.next.mode k.next.place.at k.next.end k.far) e g.token in
          let c : IsCharBoundary text k.next.end = subst (λ o. IsCutEnd text o k.next.end) e q.end in
          put_cut base text (token_bytes text k.next) (Error fault (length (token_bytes text k.next)) ∷ []) k g q c
          (error_cut text utf8 k.next.place.at k.next.end (omega (arith, t.0)) t.1 q.before c fault)

  row_cut : (t : Table) (r : Row) (s : Stack) → IsGood base text s → IsCut text s → IsCut text (after_row t text r s)
  row_cut t r s h p =
      let most : ℕ = t.most_levels in
      let u : Stack = acts most text r.before s in
      let u_good : IsGood base text u = acts_good base text most r.before s h in
      let v : Stack = taken text r.take u in
      let v_good : IsGood base text v = taken_good base text r.take u u_good in
      called r.call (acts most text r.after v) (acts_good base text most r.after v v_good)
      (acts_cut base text most r.after v v_good (taken_cut r.take u u_good (acts_cut base text most r.before s h p)))
    where
      called : (o : Option Call) (s : Stack) → IsGood base text s → IsCut text s → IsCut text (called_if o s)
      called None s h p = p
      called (Some c) s h p = settled_cut base text s h p

  followed_cut : (t : Table) (o : Option Row) (s : Stack) → IsGood base text s → IsCut text s → IsCut text (followed t text o s)
  followed_cut t None s h p = refused_cut faults.NoRow s h p
  followed_cut t (Some r) s h p =
      elim (is_too_deep r.call s) as (λ b. IsCut text (cond b (refused text faults.TooDeep s) (after_row t text r s))) [
        | true ↦ refused_cut faults.TooDeep s h p
        | false ↦ row_cut t r s h p
      ]

  whitened_cut : (m : Mode) (s : Stack) → IsGood base text s → IsCut text s → IsCut text (whitened text (token_at m s.next.place text) s)
  whitened_cut m s h p = by (drop s.next.place.at text) refl
    where
      by : (rest : List ℕ) → drop s.next.place.at text ≡ rest → IsCut text (whitened text (token_of m s.next.place.behind rest) s)
      by [] e = p
      by (b ∷ bs) e =
          let k : FirstToken = first m s.next.place.behind (b ∷ bs) in
          let cut : IsCharBoundary text (s.next.place.at + k.len) = token_cut base text m s h b bs e in
          let same : s.next.place.at + k.len ≡ bytes s.events + bytes s.white + k.len = omega (arith, h.gap) in
          record {
            made = p.made;
            gap = from-append (bytes s.events) text s.white (Leaf (leaf_kind k.kind) k.len ∷ []) p.gap (subst (IsCharBoundary text) same cut, tt);
            behind = p.behind;
            before = cut;
            end = p.end;
          }

  skipped_cut : (n : ℕ) (m : Mode) (s : Stack) → IsGood base text s → Skips s → IsCut text s → IsCut text (skipped n m text s)
  skipped_cut zero m s h k p = p
  skipped_cut (suc n) m s h k p =
      let u : Stack = whitened text (token_at m s.next.place text) s in
      elim (is_white_at m s.next.place text) as (λ b. IsCut text (cond b (skipped n m text u) s)) [
        | true ↦ skipped_cut n m u (whitened_good base text m s h k) (whitened_skips text (token_at m s.next.place text) s k) (whitened_cut m s h p)
        | false ↦ p
      ]

  spaced_cut : (m : Mode) (s : Stack) → is_looking s.phase ≡ true → IsGood base text s → IsCut text s → IsCut text (spaced m text s)
  spaced_cut m s now h p = by (is_settled s || is_alike m s.next.space) refl
    where
      by : (b : Bool) → (is_settled s || is_alike m s.next.space) ≡ b → IsCut text (cond b s (at_token text (skipped (length text) m text (unspaced m s))))
      by true e = p
      by false e =
          let flag : s.next.is_flushed ≡ false = unflushed s.next.is_flushed _ _ e in
          let skips : Skips (unspaced m s) = record { looking = now; kind = refl; mode = refl; flushed = refl } in
          let q : IsCut text (unspaced m s) = record { made = p.made; gap = tt; behind = p.behind; before = p.behind; end = tt } in
          skipped_cut (length text) m (unspaced m s) (unspaced_good base text m s now flag h) skips q

  looked_at_cut : (t : Table) (m : Mode) (s : Stack) → IsGood base text s → IsCut text s → IsCut text (looked_at t text m s)
  looked_at_cut t m s h p =
      let u : Stack = read m text s in
      elim (is_stopped s) as (λ b. IsCut text (cond b (followed t text (row_for t End s) s) (followed t text (row_for t (seen u) u) u))) [
        | true ↦ followed_cut t (row_for t End s) s h p
        | false ↦ followed_cut t (row_for t (seen u) u) u (read_good base text m s h) (read_cut base text m s h p)
      ]

  between_cut : (s : Stack) → IsGood base text s → IsCut text s → IsCut text (between s)
  between_cut s h p = elim (is_between s) as (λ b. IsCut text (cond b (settled s) s)) [ true ↦ settled_cut base text s h p | false ↦ p ]

  looked_in_cut : (t : Table) (m : Mode) (s : Stack) → IsGood base text s → IsCut text s → IsCut text (looked_in t text m s)
  looked_in_cut t m s h p =
      elim (is_over text s) as (λ b. IsCut text (cond b (ended s) (looked_at t text m (between s)))) [
        | true ↦ ended_cut base text s h p
        | false ↦ looked_at_cut t m (between s) (between_good base text s h) (between_cut s h p)
      ]

  looked_cut : (t : Table) (s : Stack) → is_looking s.phase ≡ true → IsGood base text s → IsCut text s → IsCut text (looked t text s)
  looked_cut t s now h p = by (t.modes s.top.state)
    where
      by : (o : Option RowMode) → IsCut text (looked_by o t text s)
      by None = followed_cut t (row_for t End s) s h p
      by (Some m) = looked_in_cut t (lexer_mode m) (spaced (lexer_mode m) text s) (spaced_good base text (lexer_mode m) s now h) (spaced_cut (lexer_mode m) s now h p)

  pub looks_cut : (n : ℕ) (t : Table) (s : Stack) → is_looking s.phase ≡ true → IsGood base text s → IsCut text s → IsCut text (looks n t text s)
  looks_cut zero t s now h p = refused_cut faults.NoRow s h p
  looks_cut (suc n) t s now h p = by (is_looking (looked t text s).phase) refl (λ e. looks_cut n t (looked t text s) e (looked_good base t text s now h) (looked_cut t s now h p))
    where
      by : (b : Bool) → is_looking (looked t text s).phase ≡ b → (is_looking (looked t text s).phase ≡ true → IsCut text (looks n t text (looked t text s)))
          → IsCut text (cond b (looks n t text (looked t text s)) (looked t text s))
      by true e more = more e
      by false e more = looked_cut t s now h p

pub steps_cut : (base : ℕ) (text : List ℕ) → IsUtf8 text → (n : ℕ) (t : Table) (s : Stack) → IsGood base text s → IsCut text s → IsCut text (steps n t text s)
steps_cut base text utf8 zero t s h p = p
steps_cut base text utf8 (suc n) t s h p =
    let u : Stack = step t text s in
    let g : IsGood s.from.at text u = step_good base t text s h in
    let q : IsCut text u = looks_cut s.from.at text utf8 t.most_looks t (looking s) refl (looking_good base text s h) p in
    elim (is_taken u.phase) as (λ b. IsCut text (cond b (steps n t text u) u)) [ true ↦ steps_cut s.from.at text utf8 n t u g q | false ↦ q ]

pub start_cut : (text : List ℕ) (room : ℕ) → IsUtf8 text → IsCut text (start room)
start_cut text room utf8 = record { made = tt; gap = tt; behind = IsCharBoundary-start text utf8; before = IsCharBoundary-start text utf8; end = tt }
