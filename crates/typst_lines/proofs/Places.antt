-- The places of a line.
use Rattle.std.proofs.Common.{◌≡◌, ◌≢◌, ℕ, ◌+◌, ◌-◌, ◌<◌, ◌≤◌, List, length, take, drop, get_or, ap, sym, ◌∙◌, subst, arith, inl, inr, ◌⊎◌, ⊎_elim, sum_by, unwrap_or, length-take, length-drop}
use Rattle.std.specs.Str.{IsCharBoundary}
use Rattle.std.specs.List.{slice_range}
use Rattle.std.specs.declared.ops.Range.{Range}
use Rattle.std.proofs.lemmas.List.{get_or-take, get_or-drop, take-take}
use Rattle.std.proofs.lemmas.Option.{slice_get-get_or, slice_get_past}
use Rattle.std.proofs.lemmas.Bool.{cases_lt}
use Rattle.typst_lines.specs.LineStarts.{begins_line, line_starts, line_start, line_range}
use Rattle.typst_lines.specs.Columns.{width, IsPlace}
use Rattle.typst_lines.specs.declared.column.ColumnUnit.{ColumnUnit}
use Rattle.typst_lines.proofs.Picked.{picked_within, picked_rise}
use Rattle.typst_lines.proofs.Numbered.{InLine, in_line, line_is}
use Rattle.typst_lines.proofs.Widths.{sum-rises}
use Rattle.typst_lines.specs.declared.ends.LineEnds.{LineEnds}

-- ---- where a line ends
pub end_next : (ends : LineEnds) (text : List ℕ) (line : ℕ) → line + 1 < length (line_starts ends text) → (line_range ends text line).end ≡ line_start ends text (line + 1)
end_next ends text line more = ap (λ o. unwrap_or o (length text)) (slice_get-get_or (line_starts ends text) (line + 1) 0 more)

pub end_last : (ends : LineEnds) (text : List ℕ) (line : ℕ) → length (line_starts ends text) ≤ line + 1 → (line_range ends text line).end ≡ length text
end_last ends text line none = ap (λ o. unwrap_or o (length text)) (slice_get_past (line_starts ends text) (line + 1) none)

pub record Ordered (ends : LineEnds) (text : List ℕ) (line : ℕ) : Type 0 where
  pub order : line_start ends text line ≤ (line_range ends text line).end
  pub inside : (line_range ends text line).end ≤ length text

pub line_ordered : (ends : LineEnds) (text : List ℕ) (line : ℕ) → line < length (line_starts ends text) → Ordered ends text line
line_ordered ends text line there =
    let all : 0 ≤ length text + 1 = omega arith in
    let here = picked_within (begins_line ends text) 0 (length text + 1) line 0 all there in
    ⊎_elim
    (λ more.
    let next = picked_within (begins_line ends text) 0 (length text + 1) (line + 1) 0 all more in
    let le : line ≤ line + 1 = omega arith in
    let rise = picked_rise (begins_line ends text) 0 (length text + 1) line (line + 1) 0 le more in
    let e = end_next ends text line more in
    record { order = omega arith; inside = omega arith })
    (λ none. let e = end_last ends text line none in record { order = omega arith; inside = omega arith })
    (cases_lt (line + 1) (length (line_starts ends text)))

-- ---- a place counted from the line's beginning
byte_at : (text : List ℕ) (s e k : ℕ) → k < e - s → get_or (slice_range text s e) k 0 ≡ get_or text (s + k) 0
byte_at text s e k less = get_or-take (e - s) (drop s text) k 0 less ∙ get_or-drop s text k 0

long : (text : List ℕ) (s e : ℕ) → s ≤ e → e ≤ length text → length (slice_range text s e) ≡ e - s
long text s e le inside = omega (arith, length-take (e - s) (drop s text), length-drop s text)

sums : (f : ℕ → ℕ) (text : List ℕ) (s e k : ℕ) → k ≤ e - s → sum_by f (slice_range text s (s + k)) ≡ sum_by f (take k (slice_range text s e))
sums f text s e k le =
    let z : s + k - s ≡ k = omega arith in
    ap (λ n. sum_by f (take n (drop s text))) z ∙ ap (λ l. sum_by f l) (sym (take-take k (e - s) (drop s text) le))

-- it is before the line's end, or the line is the last one
abbrev pub IsBefore : (ends : LineEnds) → List ℕ → ℕ → ℕ → Type 0
IsBefore ends text line k = (line_start ends text line + k < (line_range ends text line).end) ⊎ (length (line_starts ends text) ≤ line + 1)

pub place_here : (ends : LineEnds) (unit : ColumnUnit) (text : List ℕ) (line column k : ℕ) → line < length (line_starts ends text) → IsBefore ends text line k → IsCharBoundary (slice_range text (line_start ends text line) (line_range ends text line).end) k → sum_by (width unit) (take k (slice_range text (line_start ends text line) (line_range ends text line).end)) ≡ column → IsPlace ends unit text line column (line_start ends text line + k)
place_here ends unit text line column k there before h e =
    let ord = line_ordered ends text line there in
    let s = line_start ends text line in
    let n = long text (line_start ends text line) (line_range ends text line).end ord.order ord.inside in
    let le : k ≤ (line_range ends text line).end - line_start ends text line = omega (arith, h.0) in
    let inside : line_start ends text line + k ≤ length text = omega (arith, ord.inside, ord.order) in
    let low : line_start ends text line ≤ line_start ends text line + k = omega arith in
    let on = line_is ends text (line_start ends text line + k) line inside (record {
      inside = there;
      before = low;
      behind = λ more. ⊎_elim (λ l. let x = end_next ends text line more in omega arith) (λ g. absurd (omega arith)) before;
    }) in
    record {
      boundary = (
        inside,
        λ less wide. ⊎_elim
            (λ l.
            let l' : k < (line_range ends text line).end - line_start ends text line = omega arith in
            let l2 : k < length (slice_range text (line_start ends text line) (line_range ends text line).end) = omega arith in
            let b = byte_at text (line_start ends text line) (line_range ends text line).end k l' in
            let w : 128 ≤ get_or (slice_range text (line_start ends text line) (line_range ends text line).end) k 0 = omega arith in
            let lead = h.1 l2 w in
            omega arith)
            (λ g. ⊎_elim (λ l. absurd (omega arith)) (λ last. let x = end_last ends text line last in absurd (omega arith)) before)
            (cases_lt k ((line_range ends text line).end - line_start ends text line)),
      );
      on_line = on;
      at_column = ap (λ l. sum_by (width unit) (slice_range text (line_start ends text l) (line_start ends text line + k))) on
          ∙ sums (width unit) text (line_start ends text line) (line_range ends text line).end k le ∙ e;
    }

pub record PlaceIn (ends : LineEnds) (unit : ColumnUnit) (text : List ℕ) (line column k : ℕ) : Type 0 where
  pub before : IsBefore ends text line k
  pub boundary : IsCharBoundary (slice_range text (line_start ends text line) (line_range ends text line).end) k
  pub at_column : sum_by (width unit) (take k (slice_range text (line_start ends text line) (line_range ends text line).end)) ≡ column

pub place_there : (ends : LineEnds) (unit : ColumnUnit) (text : List ℕ) (line column at : ℕ) → line < length (line_starts ends text) → IsPlace ends unit text line column at → PlaceIn ends unit text line column (at - line_start ends text line)
place_there ends unit text line column at there h =
    let ord = line_ordered ends text line there in
    let P : ℕ → Type 0 = λ l. InLine ends text at l in
    let on = subst P h.on_line (in_line ends text at h.boundary.0) in
    let n = long text (line_start ends text line) (line_range ends text line).end ord.order ord.inside in
    let z : line_start ends text line + (at - line_start ends text line) ≡ at = omega (arith, on.before) in
    let before : IsBefore ends text line (at - line_start ends text line) = ⊎_elim
    (λ more. let x = end_next ends text line more in let y = on.behind more in inl (omega arith))
    (λ none. inr none)
    (cases_lt (line + 1) (length (line_starts ends text))) in
    let high : at - line_start ends text line ≤ (line_range ends text line).end - line_start ends text line = ⊎_elim (λ l. omega arith) (λ last. let x = end_last ends text line last in omega (arith, h.boundary.0)) before in
    record {
      before = before;
      boundary = (
        omega arith,
        λ less wide.
            let l' : at - line_start ends text line < (line_range ends text line).end - line_start ends text line = omega arith in
            let b = byte_at text (line_start ends text line) (line_range ends text line).end (at - line_start ends text line) l' ∙ ap (λ j. get_or text j 0) z in
            let l2 : at < length text = omega (arith, ord.inside) in
            let w : 128 ≤ get_or text at 0 = omega arith in
            let lead = h.boundary.1 l2 w in
            omega arith,
      );
      at_column = sym (sums (width unit) text (line_start ends text line) (line_range ends text line).end (at - line_start ends text line) high)
          ∙ ap (λ j. sum_by (width unit) (slice_range text (line_start ends text line) j)) z
          ∙ ap (λ l. sum_by (width unit) (slice_range text (line_start ends text l) at)) (sym h.on_line) ∙ h.at_column;
    }

-- ---- no place has the column where none does in the line's bytes
pub none_in : (ends : LineEnds) (unit : ColumnUnit) (text : List ℕ) (line column : ℕ) → line < length (line_starts ends text) → ((k : ℕ) → IsCharBoundary (slice_range text (line_start ends text line) (line_range ends text line).end) k → sum_by (width unit) (take k (slice_range text (line_start ends text line) (line_range ends text line).end)) ≢ column) → (at : ℕ) → IsPlace ends unit text line column at → ⊥
none_in ends unit text line column there none at h =
    let k = place_there ends unit text line column at there h in
    none (at - line_start ends text line) k.boundary k.at_column

-- and where the line's end alone does, at which the next line begins
pub none_but_end : (ends : LineEnds) (unit : ColumnUnit) (text : List ℕ) (line column n : ℕ) → line < length (line_starts ends text) → (line_range ends text line).end - line_start ends text line ≤ n → line + 1 ≢ length (line_starts ends text) → IsCharBoundary (slice_range text (line_start ends text line) (line_range ends text line).end) n → sum_by (width unit) (take n (slice_range text (line_start ends text line) (line_range ends text line).end)) ≡ column → (at : ℕ) → IsPlace ends unit text line column at → ⊥
none_but_end ends unit text line column n there end more hn en at h =
    let ord = line_ordered ends text line there in
    let len = long text (line_start ends text line) (line_range ends text line).end ord.order ord.inside in
    let k = place_there ends unit text line column at there h in
    ⊎_elim
    (λ l.
    let less : at - line_start ends text line < n = omega arith in
    let rises = sum-rises unit (slice_range text (line_start ends text line) (line_range ends text line).end) (at - line_start ends text line) n less hn.0 k.boundary in
    absurd (omega (arith, k.at_column)))
    (λ last. absurd (omega arith))
    k.before

-- nor a line that isn't there
pub no_line : (ends : LineEnds) (unit : ColumnUnit) (text : List ℕ) (line column : ℕ) → length (line_starts ends text) ≤ line → (at : ℕ) → IsPlace ends unit text line column at → ⊥
no_line ends unit text line column none at h =
    let on = in_line ends text at h.boundary.0 in
    absurd (omega (arith, on.inside, h.on_line))

-- ---- the same of a text and a range that are equal to these
module _ (ends : LineEnds) (unit : ColumnUnit) (text t : List ℕ) (line column : ℕ) (r : Range ℕ) (et : t ≡ text) (er : r ≡ line_range ends text line) (there : line < length (line_starts ends text)) where
  abbrev pub HasPlace : List ℕ → Range ℕ → ℕ → Type 0
  HasPlace t' r' k = IsCharBoundary (slice_range t' r'.start r'.end) k × (sum_by (width unit) (take k (slice_range t' r'.start r'.end)) ≡ column)

  has_place : (k : ℕ) → HasPlace t r k → HasPlace text (line_range ends text line) k
  has_place k h =
      let P : List ℕ → Type 0 = λ t'. HasPlace t' r k in
      let Q : Range ℕ → Type 0 = λ r'. HasPlace text r' k in
      subst Q er (subst P et h)

  pub place_of : (k : ℕ) → IsBefore ends text line k → HasPlace t r k → IsPlace ends unit text line column (r.start + k)
  place_of k before h =
      let h' = has_place k h in
      let Q : Range ℕ → Type 0 = λ r'. IsPlace ends unit text line column (r'.start + k) in
      subst Q (sym er) (place_here ends unit text line column k there before h'.0 h'.1)

  pub none_of : ((k : ℕ) → IsCharBoundary (slice_range t r.start r.end) k → sum_by (width unit) (take k (slice_range t r.start r.end)) ≢ column) → (at : ℕ) → IsPlace ends unit text line column at → ⊥
  none_of none =
      let P : List ℕ → Type 0 = λ t'. (k : ℕ) → IsCharBoundary (slice_range t' r.start r.end) k → sum_by (width unit) (take k (slice_range t' r.start r.end)) ≢ column in
      let Q : Range ℕ → Type 0 = λ r'. (k : ℕ) → IsCharBoundary (slice_range text r'.start r'.end) k → sum_by (width unit) (take k (slice_range text r'.start r'.end)) ≢ column in
      none_in ends unit text line column there (subst Q er (subst P et none))

  pub none_but_end_of : (n : ℕ) → r.end - r.start ≤ n → line + 1 ≢ length (line_starts ends text) → HasPlace t r n → (at : ℕ) → IsPlace ends unit text line column at → ⊥
  none_but_end_of n end more h =
      let h' = has_place n h in
      let Q : Range ℕ → Type 0 = λ r'. r'.end - r'.start ≤ n in
      none_but_end ends unit text line column n there (subst Q er end) more h'.0 h'.1
