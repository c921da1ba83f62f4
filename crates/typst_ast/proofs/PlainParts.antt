-- Parts of nodes and of lists commute with taking spans and bounds away, so they are alike where the nodes are.
use Rattle.std.proofs.Common.{◌≡◌, ◌↔◌, ◌⊎◌, ℕ, Bool, true, false, ◌||◌, cond, max, length, List, [], ◌∷◌, map, Option, Some, None, option_map, refl, sym, ap, ◌∙◌}
use Rattle.std.proofs.Math.Path.{transport}
use Rattle.std.specs.List.{last_or, list_any}
use Rattle.std.specs.Option.{option_to_list}
use Rattle.std.specs.Str.Parse.{digits_value}
use Rattle.typst_ast.specs.Alike.{AreAlike, AreOfOneKind, IsAlike, plain_arg}
use Rattle.typst_ast.specs.EnumNumbers.{HasNumber, IsFirstNumber, marker_digits}
use Rattle.typst_ast.specs.Headings.{heading_depth}
use Rattle.typst_ast.specs.Lists.{all_but_last, before_last, of_class, third_of}
use Rattle.typst_node.specs.Children.{all_children, all_in, behind_first, children_in, first_child, first_of, last_child, last_of, second_of}
use Rattle.typst_atoms.specs.Classes.{is_arg_kind}
use Rattle.typst_atoms.specs.Kinds.{is_kind}
use Rattle.typst_atoms.specs.MathItems.{args_in, ends_in_semicolon}
use Rattle.typst_atoms.specs.Missing.{is_of_kind}
use Rattle.typst_atoms.specs.Texts.{text_in}
use Rattle.typst_base.specs.declared.kind.SyntaxKind.{SyntaxKind}
use Rattle.typst_base.specs.declared.kind.SyntaxKind.TheVariants as kinds
use Rattle.typst_node.proofs.Plain.{text_plain, text_unbounded}
use Rattle.typst_node.specs.Plain.{plain, plain_forest, plain_label, unbounded}
use Rattle.typst_node.specs.Text.{text as text_of}
use Rattle.typst_node.specs.Tree.{AsError, AsInner, AsLeaf, Content, Forest, none, tree, Tree, kind_of, trees}
use Rattle.typst_node.specs.Views.{Class, kind_or, node_kind}

kind_unbounded : (c : Content) → kind_of (unbounded c) ≡ kind_of c
kind_unbounded (AsLeaf kind text) = refl
kind_unbounded (AsError text message hints) = refl
kind_unbounded (AsInner kind bound) = refl

pub kind_plain : (t : Tree) → node_kind (plain t) ≡ node_kind t
kind_plain t = kind_unbounded t.label.content

trees_plain : (f : Forest) → trees (plain_forest f) ≡ map plain (trees f)
trees_plain none = refl
trees_plain (tree l c r) =
    ap (λ (ts : List Tree). record { label = plain_label l; children = plain_forest c } ∷ ts) (trees_plain r)

pub children_plain : (o : Option Tree) → children_in (option_map plain o) ≡ map plain (children_in o)
children_plain None = refl
children_plain (Some t) = trees_plain t.children

pub kind_or_plain : (blank : SyntaxKind) (o : Option Tree) → kind_or blank (option_map plain o) ≡ kind_or blank o
kind_or_plain blank None = refl
kind_or_plain blank (Some t) = kind_plain t

pub text_in_plain : (o : Option Tree) → text_in (option_map plain o) ≡ text_in o
text_in_plain None = refl
text_in_plain (Some t) = text_unbounded t.label.content

-- choices between lists
pub cond_lists : (v : Bool) (ts us : List Tree) → cond v (map plain ts) (map plain us) ≡ map plain (cond v ts us)
cond_lists true ts us = refl
cond_lists false ts us = refl

-- parts of lists
pub first_of_plain : (ts : List Tree) → first_of (map plain ts) ≡ option_map plain (first_of ts)
first_of_plain [] = refl
first_of_plain (t ∷ ts) = refl

last_or_plain : (o : Option Tree) (ts : List Tree)
    → last_or (option_map plain o) (map plain ts) ≡ option_map plain (last_or o ts)
last_or_plain o [] = refl
last_or_plain o (t ∷ ts) = last_or_plain (Some t) ts

pub last_of_plain : (ts : List Tree) → last_of (map plain ts) ≡ option_map plain (last_of ts)
last_of_plain ts = last_or_plain None ts

pub option_list_plain : (o : Option Tree) → option_to_list (option_map plain o) ≡ map plain (option_to_list o)
option_list_plain None = refl
option_list_plain (Some t) = refl

pub all_in_plain : (c : Class) (ts : List Tree) → all_in c (map plain ts) ≡ map plain (all_in c ts)
all_in_plain c [] = refl
all_in_plain c (t ∷ ts) =
    ap (λ (k : SyntaxKind). cond (c k) (plain t ∷ all_in c (map plain ts)) (all_in c (map plain ts))) (kind_plain t)
    ∙ ap (λ (us : List Tree). cond (c (node_kind t)) (plain t ∷ us) us) (all_in_plain c ts)
    ∙ cond_lists (c (node_kind t)) (t ∷ all_in c ts) (all_in c ts)

pub behind_first_plain : (c : Class) (ts : List Tree) → behind_first c (map plain ts) ≡ map plain (behind_first c ts)
behind_first_plain c [] = refl
behind_first_plain c (t ∷ ts) =
    ap (λ (k : SyntaxKind). cond (c k) (map plain ts) (behind_first c (map plain ts))) (kind_plain t)
    ∙ ap (λ (us : List Tree). cond (c (node_kind t)) (map plain ts) us) (behind_first_plain c ts)
    ∙ cond_lists (c (node_kind t)) ts (behind_first c ts)

any_plain : (c : Class) (ts : List Tree) → list_any (λ s. c (node_kind s)) (map plain ts) ≡ list_any (λ s. c (node_kind s)) ts
any_plain c [] = refl
any_plain c (t ∷ ts) = λ i. c (kind_plain t i) || any_plain c ts i

pub before_last_plain : (c : Class) (ts : List Tree) → before_last c (map plain ts) ≡ map plain (before_last c ts)
before_last_plain c [] = refl
before_last_plain c (t ∷ ts) =
    (λ i. cond (any_plain c ts i) (plain t ∷ before_last_plain c ts i) [])
    ∙ cond_lists (list_any (λ s. c (node_kind s)) ts) (t ∷ before_last c ts) []

-- the children of a class
pub all_plain : (c : Class) (o : Option Tree) → all_children c (option_map plain o) ≡ map plain (all_children c o)
all_plain c o = ap (all_in c) (children_plain o) ∙ all_in_plain c (children_in o)

pub first_plain : (c : Class) (o : Option Tree) → first_child c (option_map plain o) ≡ option_map plain (first_child c o)
first_plain c o = ap first_of (all_plain c o) ∙ first_of_plain (all_children c o)

pub last_plain : (c : Class) (o : Option Tree) → last_child c (option_map plain o) ≡ option_map plain (last_child c o)
last_plain c o = ap last_of (all_plain c o) ∙ last_of_plain (all_children c o)

pub second_of_plain : (ts : List Tree) → second_of (map plain ts) ≡ option_map plain (second_of ts)
second_of_plain [] = refl
second_of_plain (t ∷ ts) = first_of_plain ts

pub third_of_plain : (ts : List Tree) → third_of (map plain ts) ≡ option_map plain (third_of ts)
third_of_plain [] = refl
third_of_plain (t ∷ ts) = second_of_plain ts

pub all_but_last_plain : (ts : List Tree) → all_but_last (map plain ts) ≡ map plain (all_but_last ts)
all_but_last_plain [] = refl
all_but_last_plain (t ∷ []) = refl
all_but_last_plain (t ∷ (u ∷ ts)) = ap (λ (us : List Tree). plain t ∷ us) (all_but_last_plain (u ∷ ts))

pub is_of_kind_plain : (k : SyntaxKind) (o : Option Tree) → is_of_kind k (option_map plain o) ≡ is_of_kind k o
is_of_kind_plain k None = refl
is_of_kind_plain k (Some t) = ap (is_kind k) (kind_plain t)

pub cond_options : (v : Bool) (o p : Option Tree)
    → cond v (option_map plain o) (option_map plain p) ≡ option_map plain (cond v o p)
cond_options true o p = refl
cond_options false o p = refl

pub of_class_plain : (c : Class) (o : Option Tree) → of_class c (option_map plain o) ≡ option_map plain (of_class c o)
of_class_plain c None = refl
of_class_plain c (Some t) =
    ap (λ (k : SyntaxKind). cond (c k) (Some (plain t)) None) (kind_plain t) ∙ cond_options (c (node_kind t)) (Some t) None

-- what is read of each node of a list
kinds_plain : (ts : List Tree) → map node_kind (map plain ts) ≡ map node_kind ts
kinds_plain [] = refl
kinds_plain (t ∷ ts) = λ i. kind_plain t i ∷ kinds_plain ts i

texts_plain : (ts : List Tree) → map (λ t. text_in (Some t)) (map plain ts) ≡ map (λ t. text_in (Some t)) ts
texts_plain [] = refl
texts_plain (t ∷ ts) = λ i. text_unbounded t.label.content i ∷ texts_plain ts i

lengths_plain : (ts : List Tree) → map (λ t. length (text_of t)) (map plain ts) ≡ map (λ t. length (text_of t)) ts
lengths_plain [] = refl
lengths_plain (t ∷ ts) = λ i. length (text_plain t i) ∷ lengths_plain ts i

depth_plain : (o : Option Tree) → heading_depth (option_map plain o) ≡ heading_depth o
depth_plain None = refl
depth_plain (Some t) = ap (λ (bytes : List ℕ). max 1 (length bytes)) (text_plain t)

-- the arguments in math
ends_in_semicolon_plain : (ts : List Tree) → ends_in_semicolon (map plain ts) ≡ ends_in_semicolon ts
ends_in_semicolon_plain [] = refl
ends_in_semicolon_plain (t ∷ ts) =
    λ i. cond (is_arg_kind (kind_plain t i)) false (is_kind kinds.Semicolon (kind_plain t i) || ends_in_semicolon_plain ts i)

-- an argument's plain tree beside whether it ends in a semicolon, and with its kind between them
abbrev bare_arg : Tree × Bool → Tree × Bool
bare_arg p = (plain p.0, p.1)

abbrev with_kind : Tree × Bool → Tree × SyntaxKind × Bool
with_kind p = (p.0, node_kind p.0, p.1)

cond_args : (v : Bool) (ps qs : List (Tree × Bool)) → cond v (map bare_arg ps) (map bare_arg qs) ≡ map bare_arg (cond v ps qs)
cond_args true ps qs = refl
cond_args false ps qs = refl

args_plain : (ts : List Tree) → args_in (map plain ts) ≡ map bare_arg (args_in ts)
args_plain [] = refl
args_plain (t ∷ ts) =
    (λ i. cond (is_arg_kind (kind_plain t i)) ((plain t, ends_in_semicolon_plain ts i) ∷ args_plain ts i) (args_plain ts i))
    ∙ cond_args (is_arg_kind (node_kind t)) ((t, ends_in_semicolon ts) ∷ args_in ts) (args_in ts)

arg_kinds_plain : (ps : List (Tree × Bool)) → map with_kind (map bare_arg ps) ≡ map plain_arg ps
arg_kinds_plain [] = refl
arg_kinds_plain (p ∷ ps) = λ i. (plain p.0, kind_plain p.0 i, p.1) ∷ arg_kinds_plain ps i

-- the number of an enumeration
first_number_plain : (ts : List Tree) (n : Option ℕ) → IsFirstNumber (map plain ts) n ≡ IsFirstNumber ts n
first_number_plain [] n = refl
first_number_plain (t ∷ ts) n =
    λ i. let digits = text_unbounded t.label.content i in
    (HasNumber digits × (n ≡ Some (digits_value 10 (marker_digits digits))))
    ⊎ (¬ (HasNumber digits) × first_number_plain ts n i)

-- of lists that are alike the same is read
module _ (ts us : List Tree) (same : map plain ts ≡ map plain us) where
  pub kinds_alike : map node_kind ts ≡ map node_kind us
  kinds_alike = sym (kinds_plain ts) ∙ ap (map node_kind) same ∙ kinds_plain us

  pub texts_alike : map (λ t. text_in (Some t)) ts ≡ map (λ t. text_in (Some t)) us
  texts_alike = sym (texts_plain ts) ∙ ap (map (λ t. text_in (Some t))) same ∙ texts_plain us

  pub lengths_alike : map (λ t. length (text_of t)) ts ≡ map (λ t. length (text_of t)) us
  lengths_alike = sym (lengths_plain ts) ∙ ap (map (λ t. length (text_of t))) same ∙ lengths_plain us

  pub args_alike : map plain_arg (args_in ts) ≡ map plain_arg (args_in us)
  args_alike =
      sym (arg_kinds_plain (args_in ts))
      ∙ ap (map with_kind) (sym (args_plain ts) ∙ ap args_in same ∙ args_plain us)
      ∙ arg_kinds_plain (args_in us)

  pub first_of_alike : IsAlike (first_of ts) (first_of us)
  first_of_alike = sym (first_of_plain ts) ∙ ap first_of same ∙ first_of_plain us

  pub second_of_alike : IsAlike (second_of ts) (second_of us)
  second_of_alike = sym (second_of_plain ts) ∙ ap second_of same ∙ second_of_plain us

  pub third_of_alike : IsAlike (third_of ts) (third_of us)
  third_of_alike = sym (third_of_plain ts) ∙ ap third_of same ∙ third_of_plain us

  pub last_of_alike : IsAlike (last_of ts) (last_of us)
  last_of_alike = sym (last_of_plain ts) ∙ ap last_of same ∙ last_of_plain us

  pub all_in_alike : (c : Class) → AreAlike (all_in c ts) (all_in c us)
  all_in_alike c = sym (all_in_plain c ts) ∙ ap (all_in c) same ∙ all_in_plain c us

  pub all_but_last_alike : AreAlike (all_but_last ts) (all_but_last us)
  all_but_last_alike = sym (all_but_last_plain ts) ∙ ap all_but_last same ∙ all_but_last_plain us

  pub behind_first_alike : (c : Class) → AreAlike (behind_first c ts) (behind_first c us)
  behind_first_alike c = sym (behind_first_plain c ts) ∙ ap (behind_first c) same ∙ behind_first_plain c us

  pub before_last_alike : (c : Class) → AreAlike (before_last c ts) (before_last c us)
  before_last_alike c = sym (before_last_plain c ts) ∙ ap (before_last c) same ∙ before_last_plain c us

  number_kept : (n : Option ℕ) → IsFirstNumber ts n ≡ IsFirstNumber us n
  number_kept n = sym (first_number_plain ts n) ∙ ap (λ (vs : List Tree). IsFirstNumber vs n) same ∙ first_number_plain us n

  pub first_number_alike : (n : Option ℕ) → IsFirstNumber ts n ↔ IsFirstNumber us n
  first_number_alike n = (transport (number_kept n), transport (sym (number_kept n)))

-- and so is it of nodes that are alike
module _ (a b : Option Tree) (same : IsAlike a b) where
  pub kind_alike : AreOfOneKind a b
  kind_alike blank = sym (kind_or_plain blank a) ∙ ap (kind_or blank) same ∙ kind_or_plain blank b

  pub text_alike : text_in a ≡ text_in b
  text_alike = sym (text_in_plain a) ∙ ap text_in same ∙ text_in_plain b

  pub is_of_kind_alike : (k : SyntaxKind) → is_of_kind k a ≡ is_of_kind k b
  is_of_kind_alike k = sym (is_of_kind_plain k a) ∙ ap (is_of_kind k) same ∙ is_of_kind_plain k b

  pub of_class_alike : (c : Class) → IsAlike (of_class c a) (of_class c b)
  of_class_alike c = sym (of_class_plain c a) ∙ ap (of_class c) same ∙ of_class_plain c b

  pub children_alike : AreAlike (children_in a) (children_in b)
  children_alike = sym (children_plain a) ∙ ap children_in same ∙ children_plain b

  pub depth_alike : heading_depth a ≡ heading_depth b
  depth_alike = sym (depth_plain a) ∙ ap heading_depth same ∙ depth_plain b
