-- What the search for names that come again does, in the words of the definitions.
use Rattle.std.proofs.Common.{◌≡◌, ℕ, zero, suc, ◌+◌, ◌-◌, ◌≤◌, ◌<◌, min, false, List, [], ◌∷◌, ◌++◌, length, take, drop, reverse, get_or, Option, Some, None, refl, sym, ap, ◌∙◌, add-one, append_assoc, arith}
use Rattle.std.proofs.lemmas.List.{append-nil, drop-drop, length-reverse, length-take, reverse-reverse, take_more}
use Rattle.std.specs.List.{list_any}
use Rattle.std.specs.Option.{is_some}
use Rattle.std.proofs.Math.Seq.{drop-cons, drop-nil}
use Rattle.typst_parser.specs.Events.{but_last, bytes_of, kind_of, last_some}
use Rattle.typst_parser.specs.Unique.{child_roles, fault_gone, fault_put, faulted_back, faults_of, Found, found_back, found_in, made_unique, roles_below}
use Rattle.typst_parser.specs.Roles.{first_role, others_role, root_role}
use Rattle.typst_parser.specs.Spans.{children_of}
use Rattle.typst_parser.specs.declared.event.Event.{Event}
use Rattle.typst_parser.specs.declared.fault.Fault.{Fault}
use Rattle.typst_parser.specs.declared.role.Role.{Role}
use Rattle.typst_parser.proofs.Spanning.{reverse-push}
use Rattle.typst_grammar.specs.declared.row.Unique.{Unique}

found_more : (what : Unique) (role : Role) (roles : List Role) (text : List ℕ) (e : Event) (back : List Event)
    → found_back what (role ∷ roles) text (e ∷ back) ≡ found_in what role (kind_of e) (last_some (bytes_of e) text) ∷ found_back what (roles_below role e back ++ roles) (but_last (bytes_of e) text) back
unfolding found_back
found_more what role roles text e back = refl

pub found_none : (what : Unique) (roles : List Role) (text : List ℕ) → found_back what roles text [] ≡ []
unfolding found_back
found_none what [] text = refl
found_none what (role ∷ roles) text = refl

pub no_roles : (what : Unique) (text : List ℕ) (back : List Event) → found_back what [] text back ≡ []
unfolding found_back
no_roles what text back = refl

-- one event further back
pub find_next : (what : Unique) (all : List Event) (left : ℕ) (d : Event) (e : Event) (role : Role) (roles new : List Role) (rest before piece : List ℕ) (found more whole : List (Option Found)) (children : ℕ)
    → 0 < left → left ≤ length all → children ≡ children_of e → e ≡ get_or all (left - 1) d → piece ≡ last_some (bytes_of e) rest → before ≡ but_last (bytes_of e) rest
    → new ≡ child_roles (first_role role (kind_of e) (left - 1)) (others_role role (kind_of e) (left - 1)) (min children (left - 1)) ++ roles
    → more ≡ found ++ found_in what role (kind_of e) piece ∷ []
    → found ++ found_back what (role ∷ roles) rest (reverse (take left all)) ≡ whole
    → more ++ found_back what new before (reverse (take (left - 1) all)) ≡ whole
find_next what all left d e role roles new rest before piece found more whole children some within children_is e_is piece_is before_is new_is more_is so_far =
    let back : List Event = reverse (take (left - 1) all) in
    let count : length back ≡ left - 1 = length-reverse (take (left - 1) all) ∙ omega (arith, length-take (left - 1) all) in
    let one : left - 1 + 1 ≡ left = omega arith in
    let split : reverse (take left all) ≡ e ∷ back =
    sym (ap (λ n. reverse (take n all)) one) ∙ ap reverse (take_more all (left - 1) d (omega arith)) ∙ reverse-push (take (left - 1) all) (get_or all (left - 1) d) ∙ ap (λ x. x ∷ back) (sym e_is) in
    let below : new ≡ roles_below role e back ++ roles =
    new_is ∙ ap (λ n. child_roles (first_role role (kind_of e) (left - 1)) (others_role role (kind_of e) (left - 1)) (min n (left - 1)) ++ roles) children_is
    ∙ ap (λ n. child_roles (first_role role (kind_of e) n) (others_role role (kind_of e) n) (min (children_of e) n) ++ roles) (sym count) in
    (λ i. more_is i ++ found_back what (below i) (before_is i) back)
    ∙ append_assoc found (found_in what role (kind_of e) piece ∷ []) (found_back what (roles_below role e back ++ roles) (but_last (bytes_of e) rest) back)
    ∙ ap (λ p. found ++ (found_in what role (kind_of e) p ∷ found_back what (roles_below role e back ++ roles) (but_last (bytes_of e) rest) back)) piece_is
    ∙ sym (ap (λ fs. found ++ fs) (ap (found_back what (role ∷ roles) rest) split ∙ found_more what role roles rest e back))
    ∙ so_far

-- the end of the search
pub find_end : (what : Unique) (found whole : List (Option Found)) (roles : List Role) (rest : List ℕ) (back : List Event) → back ≡ [] → found ++ found_back what roles rest back ≡ whole → found ≡ whole
find_end what found whole roles rest back none so_far =
    sym (append-nil found) ∙ sym (ap (λ fs. found ++ fs) (ap (found_back what roles rest) none ∙ found_none what roles rest)) ∙ so_far

pub find_all : (what : Unique) (found whole : List (Option Found)) (roles : List Role) (rest : List ℕ) (back : List Event) → roles ≡ [] → found ++ found_back what roles rest back ≡ whole → found ≡ whole
find_all what found whole roles rest back none so_far =
    sym (append-nil found) ∙ sym (ap (λ fs. found ++ fs) (ap (λ rs. found_back what rs rest back) none ∙ no_roles what rest back)) ∙ so_far

-- events with faults

faulted_none : (n end : ℕ) (faults : List (Option Fault)) → faulted_back n end faults [] ≡ []
unfolding faulted_back
faulted_none n end [] = drop-nil n
faulted_none n end (f ∷ faults) = refl

faulted_more : (end : ℕ) (f : Option Fault) (faults : List (Option Fault)) (e : Event) (back : List Event)
    → faulted_back 0 end (f ∷ faults) (e ∷ back) ≡ fault_put f end e back ++ faulted_back (fault_gone f e back) end faults back
unfolding faulted_back
faulted_more end f faults e back = refl

faulted_skips : (n end : ℕ) (faults : List (Option Fault)) (back : List Event) → faulted_back n end faults back ≡ faulted_back 0 end (drop n faults) (drop n back)
unfolding faulted_back
faulted_skips zero end faults back = refl
faulted_skips (suc n) end [] back = refl
faulted_skips (suc n) end (f ∷ faults) [] = sym (faulted_none 0 end (drop n faults))
faulted_skips (suc n) end (f ∷ faults) (e ∷ back) = faulted_skips n end faults back

capped : {X : Type 0} (n len : ℕ) (xs : List X) → length xs ≤ len → drop (min n len) xs ≡ drop n xs
capped n len [] low = drop-nil (min n len) ∙ sym (drop-nil n)
capped zero len (x ∷ xs) low = let none : min 0 len ≡ 0 = omega arith in ap (λ k. drop k (x ∷ xs)) none
capped (suc n) zero (x ∷ xs) low = absurd (omega arith)
capped (suc n) (suc len) (x ∷ xs) low = let one : min (suc n) (suc len) ≡ suc (min n len) = omega arith in ap (λ k. drop k (x ∷ xs)) one ∙ capped n len xs (omega arith)

-- one event more
pub take_next : (faults : List (Option Fault)) (at gone next end : ℕ) (d f : Option Fault) (e : Event) (before after : List Event) (taken more whole : List Event)
    → at < length faults → f ≡ get_or faults at d → before ≡ e ∷ after → more ≡ taken ++ fault_put f end e after → gone ≡ fault_gone f e after → next ≡ at + 1 + min gone (length faults - at - 1)
    → taken ++ faulted_back 0 end (drop at faults) before ≡ whole
    → more ++ faulted_back 0 end (drop next faults) (drop gone after) ≡ whole
take_next faults at gone next end d f e before after taken more whole within f_is before_is more_is gone_is next_is so_far =
    let left : drop next faults ≡ drop gone (drop (suc at) faults) =
    (let bounded : next ≡ min (at + 1 + gone) (length faults) = omega (arith, next_is, within) in ap (λ n. drop n faults) bounded)
    ∙ capped (at + 1 + gone) (length faults) faults (omega arith) ∙ ap (λ n. drop (n + gone) faults) (add-one at) ∙ sym (drop-drop gone (suc at) faults) in
    let rest : faulted_back 0 end (drop next faults) (drop gone after) ≡ faulted_back (fault_gone f e after) end (drop (suc at) faults) after =
    ap (λ fs. faulted_back 0 end fs (drop gone after)) left ∙ sym (faulted_skips gone end (drop (suc at) faults) after) ∙ ap (λ n. faulted_back n end (drop (suc at) faults) after) gone_is in
    (λ i. more_is i ++ rest i)
    ∙ append_assoc taken (fault_put f end e after) (faulted_back (fault_gone f e after) end (drop (suc at) faults) after)
    ∙ sym (ap (λ es. taken ++ es)
    ((λ i. faulted_back 0 end (drop-cons faults at d within i) (before_is i)) ∙ ap (λ g. faulted_back 0 end (g ∷ drop (suc at) faults) (e ∷ after)) (sym f_is) ∙ faulted_more end f (drop (suc at) faults) e after))
    ∙ so_far

pub take_none : (faults : List (Option Fault)) (at end : ℕ) (before taken rest whole : List Event) → before ≡ [] → rest ≡ [] → taken ++ faulted_back 0 end (drop at faults) before ≡ whole → taken ++ rest ≡ whole
take_none faults at end before taken rest whole none empty so_far =
    ap (λ es. taken ++ es) (empty ∙ sym (faulted_none 0 end (drop at faults)) ∙ sym (ap (faulted_back 0 end (drop at faults)) none)) ∙ so_far

faulted_end : (end : ℕ) (back : List Event) → faulted_back 0 end [] back ≡ back
unfolding faulted_back
faulted_end end back = refl

past_all : {X : Type 0} (xs : List X) (n : ℕ) → length xs ≤ n → drop n xs ≡ []
past_all [] n low = drop-nil n
past_all (x ∷ xs) zero low = absurd (omega arith)
past_all (x ∷ xs) (suc n) low = past_all xs n (omega arith)

pub take_all : (faults : List (Option Fault)) (at end : ℕ) (before taken whole : List Event) → length faults ≤ at → taken ++ faulted_back 0 end (drop at faults) before ≡ whole → taken ++ before ≡ whole
take_all faults at end before taken whole low so_far =
    ap (λ es. taken ++ es) (sym (faulted_end end before) ∙ sym (ap (λ fs. faulted_back 0 end fs before) (past_all faults at low))) ∙ so_far

-- without a fault all stays as it is
no_faults : (end : ℕ) (faults : List (Option Fault)) (back : List Event) → list_any is_some faults ≡ false → faulted_back 0 end faults back ≡ back
unfolding faulted_back
no_faults end [] back none = refl
no_faults end (f ∷ faults) [] none = refl
no_faults end (None ∷ faults) (e ∷ back) none = ap (λ es. e ∷ es) (no_faults end faults back none)
no_faults end (Some f ∷ faults) (e ∷ back) none = cc

pub faultless : (what : Unique) (text : List ℕ) (es : List Event) (faults : List (Option Fault)) → faults ≡ faults_of (found_back what (root_role what ∷ []) text (reverse es))
    → list_any is_some faults ≡ false → es ≡ made_unique what text es
faultless what text es faults is none =
    sym (ap (λ fs. reverse (faulted_back 0 (length text) fs (reverse es))) (sym is) ∙ ap reverse (no_faults (length text) faults (reverse es) none) ∙ reverse-reverse es)
