-- A run goes on by one slot.
use Rattle.std.proofs.Common.{◌≡◌, ℕ, ◌+◌, ◌<◌, List, [], ◌∷◌, ◌++◌, refl, sym, ◌∙◌, ap, subst, length, get_or, take, drop, arith, length-take}
use Rattle.std.proofs.lemmas.List.{take_more, take_more_set, drop_more, drop-set-lt}
use Rattle.std.specs.Prelude.{slice_set}
use Rattle.typst_node.specs.Tree.{Tree}
use Rattle.typst_node.specs.Plain.{plain}
use Rattle.typst_node.specs.Numbered.{IsNumberedFor}
use Rattle.typst_tree.specs.declared.session.Request.{Request}
use Rattle.typst_tree.specs.declared.session.Request.TheVariants.{Replace, Find}
use Rattle.typst_tree.specs.declared.session.Reply.{Reply}
use Rattle.typst_tree.specs.declared.session.Reply.TheVariants.{Renumbered, Misfit, Refused, Found, NotFound, NoMemory}
use Rattle.typst_tree.specs.declared.session.Slot.{Slot}
use Rattle.typst_tree.specs.declared.session.Slot.TheVariants.{Ask, Told}
use Rattle.typst_tree.specs.Step.{Step}
use Rattle.typst_tree.specs.Run.{Answers, Run, edited_by, edited_by_slot, edited_if_done}
use Rattle.typst_tree.proofs.PlainRuns.{edited_alike}

run_push : (t : Tree) (befores afters : List Slot) (u : Tree) (before after : Slot) (v : Tree) → Run t befores afters u → Answers u before after v → Run t (befores ++ before ∷ []) (afters ++ after ∷ []) v
run_push t [] [] u before after v r a = (v, subst (λ (k : Tree). Answers k before after v) r a, refl)
run_push t (b ∷ bs) (c ∷ cs) u before after v r a = (r.0, r.1, run_push r.0 bs cs u before after v r.2 a)
run_push t [] (c ∷ cs) u before after v r a = absurd r
run_push t (b ∷ bs) [] u before after v r a = absurd r

-- the first of what is left, and what is left after it
same_next : (xs ys : List Slot) (i : ℕ) (d : Slot) → i < length ys → length xs ≡ length ys → drop i xs ≡ drop i ys → (get_or xs i d ≡ get_or ys i d) × (drop (i + 1) xs ≡ drop (i + 1) ys)
same_next xs ys i d l e h =
    let a : drop i xs ≡ get_or xs i d ∷ drop (i + 1) xs = drop_more xs i d (omega arith) in
    let b : drop i ys ≡ get_or ys i d ∷ drop (i + 1) ys = drop_more ys i d l in
    let both : (get_or xs i d ∷ drop (i + 1) xs) ≡ (get_or ys i d ∷ drop (i + 1) ys) = sym a ∙ h ∙ b in
    ((cc), (cc))

-- a run goes on by the next slot
pub run_more : (t : Tree) (olds news : List Slot) (i : ℕ) (u : Tree) (d after : Slot) (v : Tree) → i < length olds → length news ≡ length olds → drop i news ≡ drop i olds →
    Run t (take i olds) (take i news) u → Answers u (get_or news i d) after v → Run t (take (i + 1) olds) (take (i + 1) (slice_set news i after)) v
run_more t olds news i u d after v l e h r a =
    let ln : i < length news = omega arith in
    let b : Answers u (get_or olds i d) after v = subst (λ (k : Slot). Answers u k after v) (same_next news olds i d l e h).0 a in
    rw (take_more olds i d l, take_more_set news i after ln) (run_push t (take i olds) (take i news) u (get_or olds i d) after v r b)

pub rest_more : (olds news : List Slot) (i : ℕ) (d after : Slot) → i < length olds → length news ≡ length olds → drop i news ≡ drop i olds → drop (i + 1) (slice_set news i after) ≡ drop (i + 1) olds
rest_more olds news i d after l e h = drop-set-lt (i + 1) news i after (omega arith) ∙ (same_next news olds i d l e h).1

-- numbers stay in order, for the same file
pub step_numbered : (file : ℕ) (t : Tree) (q : Request) (r : Reply) (u : Tree) → IsNumberedFor file t → Step t q r u → IsNumberedFor file u
step_numbered file t (Replace path range others) (Renumbered r) u n s = subst (λ f. IsNumberedFor f u) n.in_file.0.0 s.numbered
step_numbered file t (Replace path range others) Misfit u n s = subst (IsNumberedFor file) (sym s.1) n
step_numbered file t (Replace path range others) (Refused e) u n s = subst (IsNumberedFor file) (sym s.2) n
step_numbered file t (Replace path range others) (Found p o l) u n s = absurd s
step_numbered file t (Replace path range others) (NotFound l) u n s = absurd s
step_numbered file t (Replace path range others) NoMemory u n s = absurd s
step_numbered file t (Find span) (Found p o l) u n s = subst (IsNumberedFor file) (sym s.0) n
step_numbered file t (Find span) (NotFound l) u n s = subst (IsNumberedFor file) (sym s.0) n
step_numbered file t (Find span) NoMemory u n s = subst (IsNumberedFor file) (sym s.1) n
step_numbered file t (Find span) (Renumbered r) u n s = absurd s
step_numbered file t (Find span) (Refused e) u n s = absurd s
step_numbered file t (Find span) Misfit u n s = absurd s

pub answer_numbered : (file : ℕ) (t : Tree) (b a : Slot) (u : Tree) → IsNumberedFor file t → Answers t b a u → IsNumberedFor file u
answer_numbered file t (Ask q) (Told r) u n s = step_numbered file t q r u n s
answer_numbered file t (Ask q) (Ask r) u n s = absurd s
answer_numbered file t (Told r) a u n s = subst (IsNumberedFor file) (sym s.1) n

-- the plain tree is the plainly edited one where a replacement was done, and else stays
step_plain : (t : Tree) (q : Request) (r : Reply) (u : Tree) → Step t q r u → plain u ≡ plain (edited_if_done q r t)
step_plain t (Replace path range others) (Renumbered r) u s = s.plain
step_plain t (Replace path range others) Misfit u s = ap plain s.1
step_plain t (Replace path range others) (Refused e) u s = ap plain s.2
step_plain t (Replace path range others) (Found p o l) u s = absurd s
step_plain t (Replace path range others) (NotFound l) u s = absurd s
step_plain t (Replace path range others) NoMemory u s = absurd s
step_plain t (Find span) (Found p o l) u s = ap plain s.0
step_plain t (Find span) (NotFound l) u s = ap plain s.0
step_plain t (Find span) NoMemory u s = ap plain s.1
step_plain t (Find span) (Renumbered r) u s = absurd s
step_plain t (Find span) (Refused e) u s = absurd s
step_plain t (Find span) Misfit u s = absurd s

answer_plain : (t : Tree) (b a : Slot) (u : Tree) → Answers t b a u → plain u ≡ plain (edited_by_slot b a t)
answer_plain t (Ask q) (Told r) u s = step_plain t q r u s
answer_plain t (Ask q) (Ask r) u s = absurd s
answer_plain t (Told r) a u s = ap plain s.1

done_alike : (q : Request) (r : Reply) (t u : Tree) → plain t ≡ plain u → plain (edited_if_done q r t) ≡ plain (edited_if_done q r u)
done_alike (Replace path range others) (Renumbered r) t u e = edited_alike path.items range.start range.end others.items t u e
done_alike (Replace path range others) Misfit t u e = e
done_alike (Replace path range others) (Refused x) t u e = e
done_alike (Replace path range others) (Found p o l) t u e = e
done_alike (Replace path range others) (NotFound l) t u e = e
done_alike (Replace path range others) NoMemory t u e = e
done_alike (Find span) r t u e = e

slot_alike : (b a : Slot) (t u : Tree) → plain t ≡ plain u → plain (edited_by_slot b a t) ≡ plain (edited_by_slot b a u)
slot_alike (Ask q) (Told r) t u e = done_alike q r t u e
slot_alike (Ask q) (Ask r) t u e = e
slot_alike (Told r) a t u e = e

-- one edit more at the end of as many slots
edited_push : (bs cs : List Slot) (b a : Slot) (t : Tree) → length cs ≡ length bs → edited_by (bs ++ b ∷ []) (cs ++ a ∷ []) t ≡ edited_by_slot b a (edited_by bs cs t)
edited_push [] [] b a t e = refl
edited_push [] (x ∷ cs) b a t e = absurd (omega (arith, e))
edited_push (y ∷ bs) [] b a t e = absurd (omega (arith, e))
edited_push (y ∷ bs) (x ∷ cs) b a t e = edited_push bs cs b a (edited_by_slot y x t) (omega (arith, e))

pub plain_more : (t : Tree) (olds news : List Slot) (i : ℕ) (u : Tree) (d after : Slot) (v : Tree) → i < length olds → length news ≡ length olds → drop i news ≡ drop i olds →
    plain u ≡ plain (edited_by (take i olds) (take i news) t) → Answers u (get_or news i d) after v → plain v ≡ plain (edited_by (take (i + 1) olds) (take (i + 1) (slice_set news i after)) t)
plain_more t olds news i u d after v l e h p a =
    let ln : i < length news = omega arith in
    let b : Answers u (get_or olds i d) after v = subst (λ (k : Slot). Answers u k after v) (same_next news olds i d l e h).0 a in
    let many : length (take i news) ≡ length (take i olds) = omega (arith, length-take i news, length-take i olds) in
    rw (take_more olds i d l, take_more_set news i after ln, edited_push (take i olds) (take i news) (get_or olds i d) after t many)
    (answer_plain u (get_or olds i d) after v b ∙ slot_alike (get_or olds i d) after u (edited_by (take i olds) (take i news) t) p)
