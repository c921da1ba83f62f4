-- A search that finds nothing a second time.
use Rattle.std.proofs.Common.{◌≡◌, ℕ, ◌&&◌, ◌||◌, Bool, true, false, List, [], ◌∷◌, ◌++◌, Option, Some, None, if◌then◌else◌, refl, sym, ap, ◌∙◌, append_assoc}
use Rattle.std.specs.Cmp.{nat_eq_equiv}
use Rattle.std.specs.BTreeSet.{BTreeSet}
use Rattle.std.specs.List.{list_any}
use Rattle.std.specs.Option.{is_some, option_map}
use Rattle.std.proofs.lemmas.Cmp.{nat_list_eq_equiv}
use Rattle.std.proofs.lemmas.List.{append-nil}
use Rattle.typst_parser.specs.FoundViews.{found_of}
use Rattle.typst_parser.specs.Seen.{Key, fault_if_seen, is_seen, seen_with}
use Rattle.typst_parser.specs.Unique.{Found, faults_of, is_among, is_same, is_same_name}
use Rattle.typst_parser.specs.declared.fault.Fault.{Fault}
use Rattle.typst_parser.specs.declared.unique.Found.{Found as CodeFound}
use Rattle.typst_parser.proofs.Seen.{after_alike}

abbrev AreClean : List (Option Found) → Type 0
AreClean fs = list_any is_some (faults_of fs) ≡ false

names_same : (a b : Option (List ℕ)) → is_same_name a b ≡ is_same_name b a
names_same None None = refl
names_same None (Some y) = refl
names_same (Some x) None = refl
names_same (Some x) (Some y) = nat_list_eq_equiv.symm x y

same : (a b : Found) → is_same a b ≡ is_same b a
same a b = λ i. nat_eq_equiv.symm a.list b.list i && names_same a.name b.name i

or_assoc : (a b c : Bool) → ((a || b) || c) ≡ (a || (b || c))
or_assoc true b c = refl
or_assoc false b c = refl

or_none : (a : Bool) → (a || false) ≡ a
or_none true = refl
or_none false = refl

or_swap : (a b : Bool) → (a || b) ≡ (b || (a || false))
or_swap true true = refl
or_swap true false = refl
or_swap false true = refl
or_swap false false = refl

or_false : (a b : Bool) → (a || b) ≡ false → (a ≡ false) × (b ≡ false)
or_false true b e = cc
or_false false b e = (refl, e)

or_both : (a b : Bool) → a ≡ false → b ≡ false → (a || b) ≡ false
or_both true b e h = cc
or_both false b e h = h

not_some : (b : Bool) (x : Fault) → is_some (if b then Some x else None) ≡ false → b ≡ false
not_some true x e = cc
not_some false x e = refl

none_if : (b : Bool) (x : Fault) → b ≡ false → is_some (if b then Some x else None) ≡ false
none_if true x e = cc
none_if false x e = refl

among_append : (f : Found) (xs ys : List (Option Found)) → is_among f (xs ++ ys) ≡ (is_among f xs || is_among f ys)
among_append f [] ys = refl
among_append f (None ∷ xs) ys = among_append f xs ys
among_append f (Some g ∷ xs) ys = ap (λ b. is_same f g || b) (among_append f xs ys) ∙ sym (or_assoc (is_same f g) (is_among f xs) (is_among f ys))

-- one more event at which nothing is found
clean_none : (xs : List (Option Found)) → AreClean xs → AreClean (xs ++ None ∷ [])
clean_none [] c = refl
clean_none (None ∷ xs) c = clean_none xs c
clean_none (Some g ∷ xs) c =
    let p = or_false (is_some (if is_among g xs then Some g.fault else None)) (list_any is_some (faults_of xs)) c in
    or_both _ _
    (none_if _ g.fault (among_append g xs (None ∷ []) ∙ or_none (is_among g xs) ∙ not_some (is_among g xs) g.fault p.0))
    (clean_none xs p.1)

-- one more name or sink, which doesn't come before
clean_some : (xs : List (Option Found)) (f : Found) → AreClean xs → is_among f xs ≡ false → AreClean (xs ++ Some f ∷ [])
clean_some [] f c a = refl
clean_some (None ∷ xs) f c a = clean_some xs f c a
clean_some (Some g ∷ xs) f c a =
    let p = or_false (is_some (if is_among g xs then Some g.fault else None)) (list_any is_some (faults_of xs)) c in
    let q = or_false (is_same f g) (is_among f xs) a in
    or_both _ _
    (none_if _ g.fault
    (among_append g xs (Some f ∷ [])
    ∙ or_both (is_among g xs) (is_same g f || false) (not_some (is_among g xs) g.fault p.0) (or_none (is_same g f) ∙ same g f ∙ q.0)))
    (clean_some xs f p.1 q.1)

-- What was found comes before what is left, exactly that was seen, and nothing came a second time.
pub record IsFresh (seen : BTreeSet Key) (left whole : List (Option Found)) : Type 0 where
  pub before : List (Option Found)
  pub split : before ++ left ≡ whole
  pub saw : (q : CodeFound) → is_seen seen q ≡ is_among (found_of q) before
  pub clean : list_any is_some (faults_of before) ≡ false

pub fresh_first : (seen : BTreeSet Key) (left whole : List (Option Found)) → ((q : CodeFound) → is_seen seen q ≡ false) → left ≡ whole → IsFresh seen left whole
fresh_first seen left whole none is = record { before = []; split = is; saw = none; clean = refl }

pub fresh_next : (s t : BTreeSet Key) (one : Option CodeFound) (left next whole : List (Option Found)) → IsFresh s left whole → left ≡ option_map found_of one ∷ next
    → ((q : CodeFound) → is_seen t q ≡ seen_with s one q) → is_some (fault_if_seen s one) ≡ false → IsFresh t next whole
fresh_next s t None left next whole f is more none = record {
  before = f.before ++ None ∷ [];
  split = append_assoc f.before (None ∷ []) next ∙ ap (λ v. f.before ++ v) (sym is) ∙ f.split;
  saw = λ q. more q ∙ f.saw q ∙ sym (among_append (found_of q) f.before (None ∷ []) ∙ or_none (is_among (found_of q) f.before));
  clean = clean_none f.before f.clean;
}
fresh_next s t (Some one) left next whole f is more none = record {
  before = f.before ++ Some (found_of one) ∷ [];
  split = append_assoc f.before (Some (found_of one) ∷ []) next ∙ ap (λ v. f.before ++ v) (sym is) ∙ f.split;
  saw = λ q. more q ∙ after_alike s one q ∙ ap (λ b. is_same (found_of q) (found_of one) || b) (f.saw q)
      ∙ or_swap (is_same (found_of q) (found_of one)) (is_among (found_of q) f.before) ∙ sym (among_append (found_of q) f.before (Some (found_of one) ∷ []));
  clean = clean_some f.before (found_of one) f.clean (sym (f.saw one) ∙ not_some (is_seen s one) one.fault none);
}

pub fresh_end : (seen : BTreeSet Key) (left whole : List (Option Found)) → IsFresh seen left whole → left ≡ [] → list_any is_some (faults_of whole) ≡ false
fresh_end seen left whole f none =
    ap (λ fs. list_any is_some (faults_of fs)) (sym (sym (append-nil f.before) ∙ ap (λ v. f.before ++ v) (sym none) ∙ f.split)) ∙ f.clean
