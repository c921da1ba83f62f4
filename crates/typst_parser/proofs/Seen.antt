-- What was seen of names in a list.
use Rattle.std.proofs.Common.{◌≡◌, ℕ, suc, ◌<◌, ◌&&◌, ◌||◌, Bool, true, false, nat_eq, List, [], ◌∷◌, ◌++◌, length, map, drop, get_or, reverse, Option, Some, None, if◌then◌else◌, refl, sym, ap, subst, ◌∙◌, arith, Bor}
use Rattle.std.specs.Option.{option_cmp, option_map}
use Rattle.std.specs.Cmp.Lexicographic.{slice_cmp}
use Rattle.std.specs.Ordering.{is_eq, nat_cmp, ordering_then}
use Rattle.std.specs.declared.cmp.Ordering.{Ordering}
use Rattle.std.specs.declared.cmp.Ordering.TheVariants.{Less, Equal, Greater}
use Rattle.std.specs.BTreeSet.{BTreeSet}
use Rattle.std.proofs.lemmas.Bool.Decides.{nat_tests}
use Rattle.std.proofs.lemmas.Cmp.{nat_list_eq_equiv}
use Rattle.std.proofs.lemmas.Map.Text.{is_eq-slice_cmp}
use Rattle.std.proofs.lemmas.List.{reverse-append}
use Rattle.std.proofs.Math.Seq.{drop-cons}
use Rattle.typst_parser.specs.FoundViews.{found_of}
use Rattle.typst_parser.specs.Seen.{Key, fault_if_seen, is_seen, key_cmp, seen_after, seen_with}
use Rattle.typst_parser.specs.Unique.{Found, fault_among, faults_of, is_among, is_same, is_same_name}
use Rattle.typst_parser.specs.declared.fault.Fault.{Fault}
use Rattle.typst_parser.specs.declared.unique.Found.{Found as CodeFound}

-- what was found, as contracts see it
abbrev pub views : List (Option CodeFound) → List (Option Found)
views fs = map (option_map found_of) fs

numbers_alike : (m n : ℕ) → is_eq (nat_cmp m n) ≡ nat_eq n m
numbers_alike m n = grind (arith, nat_tests)

names_alike : (a b : Option (Bor (List ℕ))) → is_eq (option_cmp (λ x y. slice_cmp nat_cmp x.now y.now) a b) ≡ is_same_name (option_map (λ n. n.now) b) (option_map (λ n. n.now) a)
names_alike None None = refl
names_alike None (Some y) = refl
names_alike (Some x) None = refl
names_alike (Some x) (Some y) = is_eq-slice_cmp x.now y.now ∙ nat_list_eq_equiv.symm x.now y.now

then_both : (o p : Ordering) → is_eq (ordering_then o p) ≡ is_eq o && is_eq p
then_both Less p = refl
then_both Equal p = refl
then_both Greater p = refl

keys_alike : (f q : CodeFound) → is_eq (key_cmp (f.list, f.name) (q.list, q.name)) ≡ is_same (found_of q) (found_of f)
keys_alike f q =
    then_both (nat_cmp f.list q.list) (option_cmp (λ x y. slice_cmp nat_cmp x.now y.now) f.name q.name)
    ∙ (λ i. numbers_alike f.list q.list i && names_alike f.name q.name i)

pub after_alike : (s : BTreeSet Key) (f q : CodeFound) → seen_after s f q ≡ is_same (found_of q) (found_of f) || is_seen s q
after_alike s f q = go (is_eq (key_cmp (f.list, f.name) (q.list, q.name))) (is_same (found_of q) (found_of f)) (is_seen s q) (keys_alike f q) where
  go : (a b c : Bool) → a ≡ b → (if a then true else c) ≡ (b || c)
  go true b c is = λ i. is i || c
  go false b c is = λ i. is i || c

-- exactly these were seen
abbrev pub Saw : BTreeSet Key → List (Option CodeFound) → Type 0
Saw s fs = (q : CodeFound) → is_seen s q ≡ is_among (found_of q) (views fs)

pub saw_more : (s t : BTreeSet Key) (one : Option CodeFound) (fs : List (Option CodeFound)) → Saw s fs → ((q : CodeFound) → is_seen t q ≡ seen_with s one q) → Saw t (one ∷ fs)
saw_more s t None fs saw more = λ q. more q ∙ saw q
saw_more s t (Some f) fs saw more = λ q. more q ∙ after_alike s f q ∙ ap (λ b. is_same (found_of q) (found_of f) || b) (saw q)

pub fault_is : (s : BTreeSet Key) (one : Option CodeFound) (fs : List (Option CodeFound)) → Saw s fs → fault_if_seen s one ≡ fault_among (option_map found_of one) (views fs)
fault_is s None fs saw = refl
fault_is s (Some f) fs saw = ap (λ b. if b then Some f.fault else None) (saw f)

-- one more fault
pub more_faults : (s : BTreeSet Key) (all : List (Option CodeFound)) (left : ℕ) (d : Option CodeFound) (faults : List (Option Fault)) (fault : Option Fault)
    → left < length all → Saw s (drop (suc left) all) → reverse faults ≡ faults_of (views (drop (suc left) all)) → fault ≡ fault_if_seen s (get_or all left d)
    → reverse (faults ++ fault ∷ []) ≡ faults_of (views (drop left all))
more_faults s all left d faults fault within saw so_far is =
    reverse-append faults (fault ∷ [])
    ∙ (λ i. (is ∙ fault_is s (get_or all left d) (drop (suc left) all) saw) i ∷ so_far i)
    ∙ ap (λ fs. faults_of (views fs)) (sym (drop-cons all left d within))

pub saw_next : (s t : BTreeSet Key) (all : List (Option CodeFound)) (left : ℕ) (d : Option CodeFound) → left < length all → Saw s (drop (suc left) all)
    → ((q : CodeFound) → is_seen t q ≡ seen_with s (get_or all left d) q) → Saw t (drop left all)
saw_next s t all left d within saw more = subst (Saw t) (sym (drop-cons all left d within)) (saw_more s t (get_or all left d) (drop (suc left) all) saw more)
