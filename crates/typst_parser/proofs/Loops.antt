-- Loops that take at most so many turns, in the words of the definitions.
use Rattle.std.proofs.Common.{◌≡◌, ℕ, suc, ◌+◌, ◌-◌, ◌<◌, ◌≤◌, Bool, true, false, cond, List, sym, ap, ◌∙◌, arith}
use Rattle.typst_parser.specs.Frames.{is_looking, is_taken}
use Rattle.typst_parser.specs.Reads.{is_white_at, skipped, token_at, whitened}
use Rattle.typst_parser.specs.Rows.{Table}
use Rattle.typst_parser.specs.Stack.{Stack}
use Rattle.typst_parser.specs.Steps.{looked, looks, refused, step, steps}
use Rattle.typst_parser.specs.declared.fault.Fault.TheVariants.{NoRow}
use Rattle.typst_lexer.specs.declared.mode.Mode.{Mode}

-- one turn of those that are left
left_is : (most i : ℕ) → i < most → most - i ≡ suc (most - (i + 1))
left_is most i within = omega arith

-- white space before a token: it ends here, or goes on
module _ (most i : ℕ) (m : Mode) (text : List ℕ) (s end : Stack) (so_far : skipped (most - i) m text s ≡ end) where
  skip_is : (b : Bool) → i < most → is_white_at m s.next.place text ≡ b
      → cond b (skipped (most - (i + 1)) m text (whitened text (token_at m s.next.place text) s)) s ≡ end
  skip_is b within white =
      sym (ap (λ v. cond v (skipped (most - (i + 1)) m text (whitened text (token_at m s.next.place text) s)) s) white)
      ∙ sym (ap (λ n. skipped n m text s) (left_is most i within)) ∙ so_far

  pub skip_ends : i < most → is_white_at m s.next.place text ≡ false → s ≡ end
  skip_ends within white = skip_is false within white

  pub skip_goes_on : (u : Stack) → i < most → is_white_at m s.next.place text ≡ true → u ≡ whitened text (token_at m s.next.place text) s
      → skipped (most - (i + 1)) m text u ≡ end
  skip_goes_on u within white now = ap (skipped (most - (i + 1)) m text) now ∙ skip_is true within white

  pub skip_stops : most ≤ i → s ≡ end
  skip_stops past = let none : most - i ≡ 0 = omega arith in sym (ap (λ n. skipped n m text s) none) ∙ so_far

-- looks at a token: the last one, one of several, or one too many
module _ (most i : ℕ) (t : Table) (text : List ℕ) (s u end : Stack) (so_far : looks (most - i) t text s ≡ end) where
  look_is : (b : Bool) → i < most → u ≡ looked t text s → is_looking u.phase ≡ b → cond b (looks (most - (i + 1)) t text u) u ≡ end
  look_is b within now looking =
      ap (λ (v : Stack). cond b (looks (most - (i + 1)) t text v) v) now
      ∙ sym (ap (λ c. cond c (looks (most - (i + 1)) t text (looked t text s)) (looked t text s)) (sym (ap (λ (v : Stack). is_looking v.phase) now) ∙ looking))
      ∙ sym (ap (λ n. looks n t text s) (left_is most i within)) ∙ so_far

  pub look_ends : i < most → u ≡ looked t text s → is_looking u.phase ≡ false → u ≡ end
  look_ends within now looking = look_is false within now looking

  pub look_goes_on : i < most → u ≡ looked t text s → is_looking u.phase ≡ true → looks (most - (i + 1)) t text u ≡ end
  look_goes_on within now looking = look_is true within now looking

  pub look_stops : most ≤ i → u ≡ refused text NoRow s → u ≡ end
  look_stops past now = let none : most - i ≡ 0 = omega arith in now ∙ sym (ap (λ n. looks n t text s) none) ∙ so_far

-- tokens of a block: the last one, one of several, or none is left
module _ (most i : ℕ) (t : Table) (text : List ℕ) (s u end : Stack) (so_far : steps (most - i) t text s ≡ end) where
  step_is : (b : Bool) → i < most → u ≡ step t text s → is_taken u.phase ≡ b → cond b (steps (most - (i + 1)) t text u) u ≡ end
  step_is b within now taken =
      ap (λ (v : Stack). cond b (steps (most - (i + 1)) t text v) v) now
      ∙ sym (ap (λ c. cond c (steps (most - (i + 1)) t text (step t text s)) (step t text s)) (sym (ap (λ (v : Stack). is_taken v.phase) now) ∙ taken))
      ∙ sym (ap (λ n. steps n t text s) (left_is most i within)) ∙ so_far

  pub step_ends : i < most → u ≡ step t text s → is_taken u.phase ≡ false → u ≡ end
  step_ends within now taken = step_is false within now taken

  pub step_goes_on : i < most → u ≡ step t text s → is_taken u.phase ≡ true → steps (most - (i + 1)) t text u ≡ end
  step_goes_on within now taken = step_is true within now taken

  pub step_stops : most ≤ i → s ≡ end
  step_stops past = let none : most - i ≡ 0 = omega arith in sym (ap (λ n. steps n t text s) none) ∙ so_far
