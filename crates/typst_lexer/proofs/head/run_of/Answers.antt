use Rattle.std.proofs.Common.{◌≡◌, ℕ, ◌+◌, ◌≤◌, List, length, take, drop, refl, sym, ap, subst, ◌∙◌, arith}
use Rattle.std.specs.Prelude.{Some, None}
use Rattle.typst_lexer.specs.declared.head.Run.{Run}
use Rattle.typst_lexer.specs.declared.place.Reading.{Reading}
use Rattle.typst_lexer.specs.FirstToken.{run_of}
use Rattle.typst_lexer.specs.Machine.{accepts, begin, count, stay}
use Rattle.typst_lexer.proofs.FirstTokens.{run_within}
use Rattle.typst_lexer.proofs.Leaps.{leaps, stops}
use Rattle.typst_lexer.proofs.MachineLaws.{begin_accepts, begin_counts, stay_counts_more}
use Rattle.typst_lexer.specs.Runs.{run}
use Rattle.typst_lexer.proofs.Runs.{Ends, grown_ends, grown_passed, joined_run, run_at_end, run_first, run_goes_on, run_stop}
use Rattle.typst_lexer.proofs.head.run_of.Goals as goal

pub loop-run-init : goal.loop-run-init
loop-run-init c =
    let bs : List ℕ = c.args.bytes.now in
    let first : c.begin-state.result ≡ begin c.args.mode c.args.behind (take 10 bs) = c.begin-state.ensures ∙ ap (begin c.args.mode c.args.behind) c.window.ensures in
    record {
      within = omega (arith, c.requires);
      counted = subst (λ s. count s ≤ 1) (sym first) (begin_counts c.args.mode c.args.behind (take 10 bs));
      ends = λ _. (refl, refl);
      so_far =
          ap (λ s. joined_run stay accepts (record { passed = 1; len = 1; last = s }) (run stay accepts 10 s (drop 1 bs))) first
          ∙ run_first stay accepts 10 (begin c.args.mode c.args.behind) bs c.requires (begin_accepts c.args.mode c.args.behind (take 10 bs));
    }

pub loop-run-preserved : goal.loop-run-preserved
loop-run-preserved c =
    let bs : List ℕ = c.args.bytes.now in
    let is : stay c.loop-run.state (take 10 (drop c.loop-run.run.passed bs)) ≡ Some c.in-Some.next =
    ap (stay c.loop-run.state) (sym c.window-else-easy-gt0.ensures) ∙ sym c.stay.ensures ∙ c.in-Some.is in
    let passed : c.grown-run.result.passed ≡ c.loop-run.run.passed + 1 =
    ap (λ (r : Run). r.passed) c.grown-run.ensures ∙ grown_passed stay accepts c.loop-run.run c.in-Some.next in
    record {
      within = omega (arith, passed, c.loop-run-test.true);
      counted = omega (arith, passed, c.loop-run.invariant.counted, stay_counts_more c.loop-run.state c.in-Some.next (take 10 (drop c.loop-run.run.passed bs)) is);
      ends = subst (λ r. Ends stay accepts r c.in-Some.next) (sym c.grown-run.ensures) (grown_ends stay accepts c.loop-run.run c.in-Some.next);
      so_far =
          run_goes_on stay accepts 10 c.loop-run.run c.grown-run.result c.loop-run.state c.in-Some.next bs c.loop-run-test.true is c.loop-run.invariant.ends c.grown-run.ensures
          ∙ c.loop-run.invariant.so_far;
    }

pub loop-run-preserved-then-easy-gt0 : goal.loop-run-preserved-then-easy-gt0
loop-run-preserved-then-easy-gt0 c =
    let bs : List ℕ = c.args.bytes.now in
    let s : Reading = c.loop-run.state in
    let less : count s ≤ c.loop-run.run.passed + c.easy_from-easy.result = omega (arith, c.loop-run.invariant.counted) in
    record {
      within = subst (λ (r : Run). r.passed ≤ length bs) (sym c.leapt-run.ensures) c.easy_from-easy.ensures.within;
      counted = subst (λ (r : Run). count r.last ≤ r.passed) (sym c.leapt-run.ensures) less;
      ends = subst (λ (r : Run). Ends stay accepts r r.last) (sym c.leapt-run.ensures) (λ _. (refl, refl));
      so_far =
          leaps s.place s.behind bs c.loop-run.run c.leapt-run.result c.easy_from-easy.result c.if-easy-gt0.true
          (omega (arith, c.easy_from-easy.ensures.value)) c.easy_from-easy.ensures.within c.loop-run.invariant.ends c.leapt-run.ensures
          ∙ c.loop-run.invariant.so_far;
    }

pub returns-then-ends_here-clause-run : goal.returns-then-ends_here-clause-run
returns-then-ends_here-clause-run c =
    let bs : List ℕ = c.args.bytes.now in
    let s : Reading = c.loop-run.state in
    let is : stay s (take 10 (drop c.loop-run.run.passed bs)) ≡ None =
    stops s.place s.behind bs c.loop-run.run.passed c.loop-run-test.true (sym c.ends_here.ensures ∙ c.if-ends_here.true) in
    sym (run_stop stay accepts 10 c.loop-run.run s bs c.loop-run-test.true is c.loop-run.invariant.ends) ∙ c.loop-run.invariant.so_far

pub returns-then-ends_here-clause-len : goal.returns-then-ends_here-clause-len
returns-then-ends_here-clause-len c =
    let same : c.loop-run.run.len ≡ (run_of c.args.mode c.args.behind c.args.bytes.now).len = ap (λ (r : Run). r.len) (returns-then-ends_here-clause-run c) in
    omega (arith, same, run_within c.args.mode c.args.behind c.args.bytes.now)

pub returns-in-None-clause-run : goal.returns-in-None-clause-run
returns-in-None-clause-run c =
    let bs : List ℕ = c.args.bytes.now in
    let is : stay c.loop-run.state (take 10 (drop c.loop-run.run.passed bs)) ≡ None =
    ap (stay c.loop-run.state) (sym c.window-else-easy-gt0.ensures) ∙ sym c.stay.ensures ∙ c.in-None.is in
    sym (run_stop stay accepts 10 c.loop-run.run c.loop-run.state bs c.loop-run-test.true is c.loop-run.invariant.ends) ∙ c.loop-run.invariant.so_far

pub returns-clause-run : goal.returns-clause-run
returns-clause-run c =
    sym (run_at_end stay accepts 10 c.loop-run.run c.loop-run.state c.args.bytes.now c.loop-run-test.false c.loop-run.invariant.ends) ∙ c.loop-run.invariant.so_far

pub returns-in-None-clause-len : goal.returns-in-None-clause-len
returns-in-None-clause-len c =
    let same : c.loop-run.run.len ≡ (run_of c.args.mode c.args.behind c.args.bytes.now).len = ap (λ (r : Run). r.len) (returns-in-None-clause-run c) in
    omega (arith, same, run_within c.args.mode c.args.behind c.args.bytes.now)

pub returns-clause-len : goal.returns-clause-len
returns-clause-len c =
    let same : c.loop-run.run.len ≡ (run_of c.args.mode c.args.behind c.args.bytes.now).len = ap (λ (r : Run). r.len) (returns-clause-run c) in
    omega (arith, same, run_within c.args.mode c.args.behind c.args.bytes.now)
