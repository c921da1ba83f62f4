-- What is reported, and what is diagnosed.
use Rattle.std.proofs.Common.{◌≡◌, ◌≢◌, ◌↔◌, Bool, true, false, ◌||◌, List, [], ◌∷◌, ◌++◌, map, refl, sym, ◌∙◌, IsTrue}
use Rattle.std.specs.List.{flat_map, list_any}
use Rattle.typst_base.specs.Span.{SpanParts}
use Rattle.typst_node.specs.Tree.{WarningText, Content, AsLeaf, AsError, AsInner, Label, Tree, forest}
use Rattle.typst_node.specs.Preorder.{preorder}
use Rattle.typst_node.specs.Diagnosis.{is_error_content, is_error, has_some, is_warned}
use Rattle.typst_node.specs.Diagnostics.{Report, error_reports, errors_at, warning_report, warnings_at}

-- the reports of trees
abbrev pub errors_of_all : List Tree → List Report
errors_of_all ts = flat_map errors_at (preorder (forest ts))

abbrev pub warnings_of_all : List Tree → List Report
warnings_of_all ts = flat_map warnings_at (preorder (forest ts))

-- a test that says of each label whether there is something to list
pub record Tells (test : Label → Bool) (list : Label → List Report) : Type 0 where
  pub none : (l : Label) → test l ≡ false → list l ≡ []
  pub some : (l : Label) → test l ≡ true → list l ≢ []

pub neither : (a b : Bool) → a || b ≡ false → (a ≡ false) × (b ≡ false)
neither false b h = (refl, h)
neither true b h = absurd cc

front_empty : (xs ys : List Report) → xs ++ ys ≡ [] → xs ≡ []
front_empty [] ys e = refl
front_empty (x ∷ xs) ys e = cc

back_empty : (xs ys : List Report) → xs ++ ys ≡ [] → ys ≡ []
back_empty [] ys e = e
back_empty (x ∷ xs) ys e = cc

some_joined : (b c : Bool) (here more : List Report) → (b ≡ true → here ≢ []) → (c ≡ true → more ≢ []) → b || c ≡ true → here ++ more ≢ []
some_joined true c here more in_front behind h e = in_front refl (front_empty here more e)
some_joined false c here more in_front behind h e = behind h (back_empty here more e)

module _ (test : Label → Bool) (list : Label → List Report) (tells : Tells test list) where
  pub none_listed : (ls : List Label) → list_any test ls ≡ false → flat_map list ls ≡ []
  none_listed [] h = refl
  none_listed (l ∷ ls) h =
      let both : (test l ≡ false) × (list_any test ls ≡ false) = neither (test l) (list_any test ls) h in
      λ i. tells.none l both.0 i ++ none_listed ls both.1 i

  pub some_listed : (ls : List Label) → list_any test ls ≡ true → flat_map list ls ≢ []
  some_listed [] h e = cc
  some_listed (l ∷ ls) h e = some_joined (test l) (list_any test ls) (list l) (flat_map list ls) (tells.some l) (some_listed ls) h e

no_error : (s : SpanParts) (c : Content) → is_error_content c ≡ false → error_reports s c ≡ []
no_error s (AsLeaf kind text) h = refl
no_error s (AsError text message hints) h = cc
no_error s (AsInner kind bound) h = refl

an_error : (s : SpanParts) (c : Content) → is_error_content c ≡ true → error_reports s c ≢ []
an_error s (AsLeaf kind text) h e = cc
an_error s (AsError text message hints) h e = cc
an_error s (AsInner kind bound) h e = cc

pub errors_told : Tells is_error errors_at
errors_told = record { none = λ l h. no_error l.span l.content h; some = λ l h. an_error l.span l.content h }

no_warning : (s : SpanParts) (ws : List WarningText) → has_some ws ≡ false → map (warning_report s) ws ≡ []
no_warning s [] h = refl
no_warning s (w ∷ ws) h = cc

a_warning : (s : SpanParts) (ws : List WarningText) → has_some ws ≡ true → map (warning_report s) ws ≢ []
a_warning s [] h e = cc
a_warning s (w ∷ ws) h e = cc

pub warnings_told : Tells is_warned warnings_at
warnings_told = record { none = λ l h. no_warning l.span l.warnings h; some = λ l h. a_warning l.span l.warnings h }

-- a list of which something is seen exactly if the test holds
pub has_entry : {X : Type 0} (shows : X → Report) (xs : List X) (all : List Report) (b : Bool) → map shows xs ≡ all → (b ≡ false → all ≡ []) → (b ≡ true → all ≢ []) → (xs ≢ []) ↔ IsTrue b
has_entry shows [] all false e none some = (λ ne. absurd (ne refl), λ h. cc)
has_entry shows [] all true e none some = (λ ne. absurd (ne refl), λ h. absurd (some refl (sym e)))
has_entry shows (x ∷ xs) all false e none some = absurd (let empty = e ∙ none refl in cc)
has_entry shows (x ∷ xs) all true e none some = (λ ne. refl, λ h f. cc)
