-- What follows if a line is the line of a command.
use Rattle.std.specs.Prelude.{ℕ, ◌≡◌, ◌≢◌, ◌<◌, ◌≤◌, List, ◌∷◌, ◌++◌, codes, refl}
use Rattle.std.proofs.Common.{arith, ap, drop, get_or}
use Rattle.typst_base.specs.declared.kind.SyntaxKind.{SyntaxKind}
use Rattle.typst_script.specs.Word.{blank, tab, IsSplit, IsSplitAt, IsNumber, IsKindNumber, IsFileNumber}
use Rattle.typst_script.specs.Path.{IsPathWord}
use Rattle.typst_script.specs.Command.{IsLineOf}
use Rattle.typst_script.specs.declared.command.Command.{Command}
use Rattle.typst_script.specs.declared.command.Command.TheVariants.{Leaf, Error, Warn, Inner, Root, Number, Replace, Find, Run, Show}
use Rattle.typst_script.proofs.Blanks.{no_blank_in_digits, no_blank_in_path, no_blank_by_test, blank_of_split}

-- lists that begin differently are not the same
other_head : (xs ys : List ℕ) → xs ≡ ys → get_or xs 0 0 ≢ get_or ys 0 0 → ⊥
other_head xs ys same other = other (ap (λ l. get_or l 0 0) same)

-- lists that differ in their second number are not the same
other_second : (xs ys : List ℕ) → xs ≡ ys → get_or xs 1 0 ≢ get_or ys 1 0 → ⊥
other_second xs ys same other = other (ap (λ l. get_or l 1 0) same)

-- the rest of a leaf's line
pub record LeafRest (rest : List ℕ) : Type 0 where
  pub word : List ℕ
  pub text : List ℕ
  pub kind : SyntaxKind
  pub split : IsSplit rest word text
  pub number : IsKindNumber word kind

pub leaf_rest : (command : Command) (rest : List ℕ) → IsLineOf command (codes "leaf " ++ rest) → LeafRest rest
leaf_rest (Leaf kind text) rest (word, is, number) =
    record { word = word; text = text.now; kind = kind; split = (ap (drop 5) is, no_blank_in_digits word number.0.0.1); number = number }
leaf_rest (Error message text) rest (is, none) = absurd (other_head _ _ is (omega arith))
leaf_rest (Warn message) rest is = absurd (other_head _ _ is (omega arith))
leaf_rest (Inner kind count) rest (word, other, is, number, count_number) = absurd (other_head _ _ is (omega arith))
leaf_rest Root rest is = absurd (other_head _ _ is (omega arith))
leaf_rest (Number file low high) rest (word, from, to, is, number, low_number, high_number, low_fits, high_fits) = absurd (other_head _ _ is (omega arith))
leaf_rest (Replace path start end count) rest (from, to, other, is, a_path, start_number, end_number, count_number) = absurd (other_head _ _ is (omega arith))
leaf_rest (Find file num) rest (word, other, is, number, num_number, low_fits, high_fits) = absurd (other_head _ _ is (omega arith))
leaf_rest Run rest is = absurd (other_head _ _ is (omega arith))
leaf_rest Show rest is = absurd (other_head _ _ is (omega arith))

-- the rest of an inner node's line
pub record InnerRest (rest : List ℕ) : Type 0 where
  pub word : List ℕ
  pub other : List ℕ
  pub kind : SyntaxKind
  pub count : ℕ
  pub split : IsSplit rest word other
  pub number : IsKindNumber word kind
  pub count_number : IsNumber other count

pub inner_rest : (command : Command) (rest : List ℕ) → IsLineOf command (codes "inner " ++ rest) → InnerRest rest
inner_rest (Leaf kind text) rest (word, is, number) = absurd (other_head _ _ is (omega arith))
inner_rest (Error message text) rest (is, none) = absurd (other_head _ _ is (omega arith))
inner_rest (Warn message) rest is = absurd (other_head _ _ is (omega arith))
inner_rest (Inner kind count) rest (word, other, is, number, count_number) =
    record { word = word; other = other; kind = kind; count = count; split = (ap (drop 6) is, no_blank_in_digits word number.0.0.1); number = number; count_number = count_number }
inner_rest Root rest is = absurd (other_head _ _ is (omega arith))
inner_rest (Number file low high) rest (word, from, to, is, number, low_number, high_number, low_fits, high_fits) = absurd (other_head _ _ is (omega arith))
inner_rest (Replace path start end count) rest (from, to, other, is, a_path, start_number, end_number, count_number) = absurd (other_head _ _ is (omega arith))
inner_rest (Find file num) rest (word, other, is, number, num_number, low_fits, high_fits) = absurd (other_head _ _ is (omega arith))
inner_rest Run rest is = absurd (other_head _ _ is (omega arith))
inner_rest Show rest is = absurd (other_head _ _ is (omega arith))

-- the rest of a numbering's line
pub record NumberRest (rest : List ℕ) : Type 0 where
  pub word : List ℕ
  pub from : List ℕ
  pub to : List ℕ
  pub file : ℕ
  pub low : ℕ
  pub high : ℕ
  pub split : IsSplit rest word (from ++ blank ∷ to)
  pub split_range : IsSplit (from ++ blank ∷ to) from to
  pub number : IsFileNumber word file
  pub low_number : IsNumber from low
  pub high_number : IsNumber to high
  pub low_fits : 2 ≤ low
  pub high_fits : high ≤ 140737488355328

pub number_rest : (command : Command) (rest : List ℕ) → IsLineOf command (codes "number " ++ rest) → NumberRest rest
number_rest (Leaf kind text) rest (word, is, number) = absurd (other_head _ _ is (omega arith))
number_rest (Error message text) rest (is, none) = absurd (other_head _ _ is (omega arith))
number_rest (Warn message) rest is = absurd (other_head _ _ is (omega arith))
number_rest (Inner kind count) rest (word, other, is, number, count_number) = absurd (other_head _ _ is (omega arith))
number_rest Root rest is = absurd (other_head _ _ is (omega arith))
number_rest (Number file low high) rest (word, from, to, is, number, low_number, high_number, low_fits, high_fits) =
    record {
      word = word;
      from = from;
      to = to;
      file = file;
      low = low;
      high = high;
      split = (ap (drop 7) is, no_blank_in_digits word number.0.0.1);
      split_range = (refl, no_blank_in_digits from low_number.0.1);
      number = number;
      low_number = low_number;
      high_number = high_number;
      low_fits = low_fits;
      high_fits = high_fits;
    }
number_rest (Replace path start end count) rest (from, to, other, is, a_path, start_number, end_number, count_number) = absurd (other_head _ _ is (omega arith))
number_rest (Find file num) rest (word, other, is, number, num_number, low_fits, high_fits) = absurd (other_head _ _ is (omega arith))
number_rest Run rest is = absurd (other_head _ _ is (omega arith))
number_rest Show rest is = absurd (other_head _ _ is (omega arith))

-- the rest of an error's line
pub error_rest : (command : Command) (rest : List ℕ) → IsLineOf command (codes "error " ++ rest)
    → (parts : List ℕ × List ℕ) × IsSplitAt tab rest parts.0 parts.1
error_rest (Leaf kind text) rest (word, is, number) = absurd (other_head _ _ is (omega arith))
error_rest (Error message text) rest (is, none) = ((message.now, text.now), (ap (drop 6) is, none))
error_rest (Warn message) rest is = absurd (other_head _ _ is (omega arith))
error_rest (Inner kind count) rest (word, other, is, number, count_number) = absurd (other_head _ _ is (omega arith))
error_rest Root rest is = absurd (other_head _ _ is (omega arith))
error_rest (Number file low high) rest (word, from, to, is, number, low_number, high_number, low_fits, high_fits) = absurd (other_head _ _ is (omega arith))
error_rest (Replace path start end count) rest (from, to, other, is, a_path, start_number, end_number, count_number) = absurd (other_head _ _ is (omega arith))
error_rest (Find file num) rest (word, other, is, number, num_number, low_fits, high_fits) = absurd (other_head _ _ is (omega arith))
error_rest Run rest is = absurd (other_head _ _ is (omega arith))
error_rest Show rest is = absurd (other_head _ _ is (omega arith))

-- the rest of a replacement's line
pub record ReplaceRest (rest : List ℕ) : Type 0 where
  pub path : List ℕ
  pub from : List ℕ
  pub to : List ℕ
  pub other : List ℕ
  pub start : ℕ
  pub end_ : ℕ
  pub count : ℕ
  pub split : IsSplit rest path (from ++ blank ∷ (to ++ blank ∷ other))
  pub split_range : IsSplit (from ++ blank ∷ (to ++ blank ∷ other)) from (to ++ blank ∷ other)
  pub split_end : IsSplit (to ++ blank ∷ other) to other
  pub a_path : IsPathWord path
  pub start_number : IsNumber from start
  pub end_number : IsNumber to end_
  pub count_number : IsNumber other count

pub replace_rest : (command : Command) (rest : List ℕ) → IsLineOf command (codes "replace " ++ rest) → ReplaceRest rest
replace_rest (Leaf kind text) rest (word, is, number) = absurd (other_head _ _ is (omega arith))
replace_rest (Error message text) rest (is, none) = absurd (other_head _ _ is (omega arith))
replace_rest (Warn message) rest is = absurd (other_head _ _ is (omega arith))
replace_rest (Inner kind count) rest (word, other, is, number, count_number) = absurd (other_head _ _ is (omega arith))
replace_rest Root rest is = absurd (other_second _ _ is (omega arith))
replace_rest (Number file low high) rest (word, from, to, is, number, low_number, high_number, low_fits, high_fits) = absurd (other_head _ _ is (omega arith))
replace_rest (Replace path start end count) rest (from, to, other, is, a_path, start_number, end_number, count_number) =
    record {
      path = path.word.now;
      from = from;
      to = to;
      other = other;
      start = start;
      end_ = end;
      count = count;
      split = (ap (drop 8) is, no_blank_in_path path.word.now a_path);
      split_range = (refl, no_blank_in_digits from start_number.0.1);
      split_end = (refl, no_blank_in_digits to end_number.0.1);
      a_path = a_path;
      start_number = start_number;
      end_number = end_number;
      count_number = count_number;
    }
replace_rest (Find file num) rest (word, other, is, number, num_number, low_fits, high_fits) = absurd (other_head _ _ is (omega arith))
replace_rest Run rest is = absurd (other_second _ _ is (omega arith))
replace_rest Show rest is = absurd (other_head _ _ is (omega arith))

-- the rest of a search's line
pub record FindRest (rest : List ℕ) : Type 0 where
  pub word : List ℕ
  pub other : List ℕ
  pub file : ℕ
  pub num : ℕ
  pub split : IsSplit rest word other
  pub number : IsFileNumber word file
  pub num_number : IsNumber other num
  pub low_fits : 2 ≤ num
  pub high_fits : num < 140737488355328

pub find_rest : (command : Command) (rest : List ℕ) → IsLineOf command (codes "find " ++ rest) → FindRest rest
find_rest (Leaf kind text) rest (word, is, number) = absurd (other_head _ _ is (omega arith))
find_rest (Error message text) rest (is, none) = absurd (other_head _ _ is (omega arith))
find_rest (Warn message) rest is = absurd (other_head _ _ is (omega arith))
find_rest (Inner kind count) rest (word, other, is, number, count_number) = absurd (other_head _ _ is (omega arith))
find_rest Root rest is = absurd (other_head _ _ is (omega arith))
find_rest (Number file low high) rest (word, from, to, is, number, low_number, high_number, low_fits, high_fits) = absurd (other_head _ _ is (omega arith))
find_rest (Replace path start end count) rest (from, to, other, is, a_path, start_number, end_number, count_number) = absurd (other_head _ _ is (omega arith))
find_rest (Find file num) rest (word, other, is, number, num_number, low_fits, high_fits) =
    record {
      word = word;
      other = other;
      file = file;
      num = num;
      split = (ap (drop 5) is, no_blank_in_digits word number.0.0.1);
      number = number;
      num_number = num_number;
      low_fits = low_fits;
      high_fits = high_fits;
    }
find_rest Run rest is = absurd (other_head _ _ is (omega arith))
find_rest Show rest is = absurd (other_head _ _ is (omega arith))

-- if a line is a command's and has a blank, its first word is the command's
pub no_other_word : (command : Command) (line word rest : List ℕ)
    → ((w r : List ℕ) → IsSplit line w r → (word ≡ w) × (rest ≡ r)) → IsSplit line word rest
    → word ≢ codes "leaf" → word ≢ codes "error" → word ≢ codes "warn" → word ≢ codes "inner" → word ≢ codes "number" → word ≢ codes "replace" → word ≢ codes "find" → ¬ (IsLineOf command line)
no_other_word (Leaf kind text) line word rest only split no_leaf no_error no_warn no_inner no_number no_replace no_find (k, is, number) =
    no_leaf (only (codes "leaf") _ (is, no_blank_by_test (codes "leaf") refl)).0
no_other_word (Error message text) line word rest only split no_leaf no_error no_warn no_inner no_number no_replace no_find (is, none) =
    no_error (only (codes "error") _ (is, no_blank_by_test (codes "error") refl)).0
no_other_word (Warn message) line word rest only split no_leaf no_error no_warn no_inner no_number no_replace no_find is =
    no_warn (only (codes "warn") _ (is, no_blank_by_test (codes "warn") refl)).0
no_other_word (Inner kind count) line word rest only split no_leaf no_error no_warn no_inner no_number no_replace no_find (k, other, is, number, count_number) =
    no_inner (only (codes "inner") _ (is, no_blank_by_test (codes "inner") refl)).0
no_other_word Root line word rest only split no_leaf no_error no_warn no_inner no_number no_replace no_find is =
    no_blank_by_test (codes "root") refl (rw is at (blank_of_split line word rest split))
no_other_word (Number file low high) line word rest only split no_leaf no_error no_warn no_inner no_number no_replace no_find (k, from, to, is, number, low_number, high_number, low_fits, high_fits) =
    no_number (only (codes "number") _ (is, no_blank_by_test (codes "number") refl)).0
no_other_word (Replace path start end count) line word rest only split no_leaf no_error no_warn no_inner no_number no_replace no_find (from, to, other, is, a_path, start_number, end_number, count_number) =
    no_replace (only (codes "replace") _ (is, no_blank_by_test (codes "replace") refl)).0
no_other_word (Find file num) line word rest only split no_leaf no_error no_warn no_inner no_number no_replace no_find (k, other, is, number, num_number, low_fits, high_fits) =
    no_find (only (codes "find") _ (is, no_blank_by_test (codes "find") refl)).0
no_other_word Run line word rest only split no_leaf no_error no_warn no_inner no_number no_replace no_find is =
    no_blank_by_test (codes "run") refl (rw is at (blank_of_split line word rest split))
no_other_word Show line word rest only split no_leaf no_error no_warn no_inner no_number no_replace no_find is =
    no_blank_by_test (codes "show") refl (rw is at (blank_of_split line word rest split))

-- if a line is a command's and has no blank, it is one of three words
pub lone_line : (P : Type 0) (command : Command) (line : List ℕ) → ((w r : List ℕ) → IsSplit line w r → ⊥)
    → (line ≡ codes "root" → P) → (line ≡ codes "run" → P) → (line ≡ codes "show" → P) → IsLineOf command line → P
lone_line P (Leaf kind text) line lone root run show (k, is, number) = absurd (lone (codes "leaf") _ (is, no_blank_by_test (codes "leaf") refl))
lone_line P (Error message text) line lone root run show (is, none) = absurd (lone (codes "error") _ (is, no_blank_by_test (codes "error") refl))
lone_line P (Warn message) line lone root run show is = absurd (lone (codes "warn") _ (is, no_blank_by_test (codes "warn") refl))
lone_line P (Inner kind count) line lone root run show (k, other, is, number, count_number) = absurd (lone (codes "inner") _ (is, no_blank_by_test (codes "inner") refl))
lone_line P Root line lone root run show is = root is
lone_line P (Number file low high) line lone root run show (k, from, to, is, number, low_number, high_number, low_fits, high_fits) = absurd (lone (codes "number") _ (is, no_blank_by_test (codes "number") refl))
lone_line P (Replace path start end count) line lone root run show (from, to, other, is, a_path, start_number, end_number, count_number) = absurd (lone (codes "replace") _ (is, no_blank_by_test (codes "replace") refl))
lone_line P (Find file num) line lone root run show (k, other, is, number, num_number, low_fits, high_fits) = absurd (lone (codes "find") _ (is, no_blank_by_test (codes "find") refl))
lone_line P Run line lone root run show is = run is
lone_line P Show line lone root run show is = show is
