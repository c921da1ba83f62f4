-- What errors in place of trees keep: the bytes, the number of trees, their levels, and where the text can be cut.
use Rattle.std.proofs.Common.{◌≡◌, ℕ, zero, suc, ◌+◌, ◌≤◌, min, List, [], ◌∷◌, length, drop, reverse, Option, Some, None, refl, sym, subst, ◌∙◌, arith}
use Rattle.std.specs.Str.{IsCharBoundary}
use Rattle.std.proofs.lemmas.List.{reverse-reverse}
use Rattle.typst_parser.specs.Events.{bytes, bytes_of, CanBeCut, levels, trees}
use Rattle.typst_parser.specs.Unique.{faulted_back, faults_of, found_back, made_unique}
use Rattle.typst_parser.specs.Roles.{root_role}
use Rattle.typst_parser.specs.Spans.{children_of, span, width}
use Rattle.typst_parser.specs.declared.event.Event.{Event}
use Rattle.typst_parser.specs.declared.event.Event.TheVariants.{Leaf, Error, Node}
use Rattle.typst_parser.specs.declared.fault.Fault.{Fault}
use Rattle.typst_parser.proofs.Heights.{bytes-reverse, heights, high_after, high_length, levels_high, levels_length, NoHigher, same_high, span_heights}
use Rattle.typst_parser.proofs.Retags.{bytes_cut, cut_drop, CutBack, of_back, to_back}
use Rattle.typst_grammar.specs.declared.row.Unique.{Unique}

error_high : (e : Event) (back rest : List Event) (f : Fault) (len : ℕ) → NoHigher (heights rest) (heights (drop (span (children_of e) back) back)) → NoHigher (heights (Error f len ∷ rest)) (heights (e ∷ back))
error_high (Leaf kind n) back rest f len h = (omega arith, h)
error_high (Error fault n) back rest f len h = (omega arith, h)
error_high (Node kind children) back rest f len h = (omega arith, subst (NoHigher (heights rest)) (sym (span_heights children back)) h)

high : (n end : ℕ) (faults : List (Option Fault)) (back : List Event) → NoHigher (heights (faulted_back n end faults back)) (heights (drop n back))
unfolding faulted_back
high n end [] back = same_high (heights (drop n back))
high zero end (f ∷ faults) [] = tt
high (suc n) end (f ∷ faults) [] = tt
high (suc n) end (f ∷ faults) (e ∷ back) = high n end faults back
high zero end (None ∷ faults) (e ∷ back) = high_after e (heights (faulted_back 0 end faults back)) (heights back) (high 0 end faults back)
high zero end (Some f ∷ faults) (e ∷ back) =
    error_high e back (faulted_back (span (children_of e) back) end faults back) f (min (bytes_of e + width (children_of e) back) end) (high (span (children_of e) back) end faults back)

back_bytes : (n end : ℕ) (faults : List (Option Fault)) (back : List Event) → bytes back ≤ end → bytes (faulted_back n end faults back) ≡ bytes (drop n back)
unfolding faulted_back
back_bytes n end [] back low = refl
back_bytes zero end (f ∷ faults) [] low = refl
back_bytes (suc n) end (f ∷ faults) [] low = refl
back_bytes (suc n) end (f ∷ faults) (e ∷ back) low = back_bytes n end faults back (omega (arith, low))
back_bytes zero end (None ∷ faults) (e ∷ back) low = omega (arith, back_bytes 0 end faults back (omega (arith, low)))
back_bytes zero end (Some f ∷ faults) (e ∷ back) low =
    omega (arith, low, bytes_cut (span (children_of e) back) back, back_bytes (span (children_of e) back) end faults back (omega (arith, low)))

back_cut : (n end : ℕ) (faults : List (Option Fault)) (text : List ℕ) (back : List Event) → bytes back ≤ end → CutBack text back → CutBack text (faulted_back n end faults back)
unfolding faulted_back
back_cut n end [] text back low p = cut_drop text n back p
back_cut zero end (f ∷ faults) text [] low p = tt
back_cut (suc n) end (f ∷ faults) text [] low p = tt
back_cut (suc n) end (f ∷ faults) text (e ∷ back) low p = back_cut n end faults text back (omega (arith, low)) p.1
back_cut zero end (None ∷ faults) text (e ∷ back) low p =
    let same : bytes_of e + bytes back ≡ bytes_of e + bytes (faulted_back 0 end faults back) = omega (arith, back_bytes 0 end faults back (omega (arith, low))) in
    (subst (IsCharBoundary text) same p.0, back_cut 0 end faults text back (omega (arith, low)) p.1)
back_cut zero end (Some f ∷ faults) text (e ∷ back) low p =
    let k : ℕ = span (children_of e) back in
    let same : bytes_of e + bytes back ≡ min (bytes_of e + width (children_of e) back) end + bytes (faulted_back k end faults back) =
    omega (arith, low, bytes_cut k back, back_bytes k end faults back (omega (arith, low))) in
    (subst (IsCharBoundary text) same p.0, back_cut k end faults text back (omega (arith, low)) p.1)

pub unique_high : (what : Unique) (text : List ℕ) (es : List Event) → NoHigher (levels (made_unique what text es)) (levels es)
unique_high what text es =
    let faults : List (Option Fault) = faults_of (found_back what (root_role what ∷ []) text (reverse es)) in
    subst (λ fs. NoHigher (levels (made_unique what text es)) (levels fs)) (reverse-reverse es) (levels_high (faulted_back 0 (length text) faults (reverse es)) (reverse es) (high 0 (length text) faults (reverse es)))

pub unique_trees : (what : Unique) (text : List ℕ) (es : List Event) → trees (made_unique what text es) ≡ trees es
unique_trees what text es =
    sym (levels_length (made_unique what text es)) ∙ high_length (levels (made_unique what text es)) (levels es) (unique_high what text es) ∙ levels_length es

pub unique_bytes : (what : Unique) (text : List ℕ) (es : List Event) → bytes es ≤ length text → bytes (made_unique what text es) ≡ bytes es
unique_bytes what text es low =
    let faults : List (Option Fault) = faults_of (found_back what (root_role what ∷ []) text (reverse es)) in
    bytes-reverse (faulted_back 0 (length text) faults (reverse es)) ∙ back_bytes 0 (length text) faults (reverse es) (omega (arith, bytes-reverse es, low)) ∙ bytes-reverse es

pub unique_cut : (what : Unique) (whole text : List ℕ) (es : List Event) → bytes es ≤ length text → CanBeCut whole es → CanBeCut whole (made_unique what text es)
unique_cut what whole text es low p =
    let faults : List (Option Fault) = faults_of (found_back what (root_role what ∷ []) text (reverse es)) in
    of_back whole (faulted_back 0 (length text) faults (reverse es))
    (back_cut 0 (length text) faults whole (reverse es) (omega (arith, bytes-reverse es, low)) (to_back whole (reverse es) (subst (CanBeCut whole) (sym (reverse-reverse es)) p)))
