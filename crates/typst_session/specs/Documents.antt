-- What calls on documents do.
use Rattle.std.specs.Prelude.{ℕ, ◌≡◌, ◌≢◌, ◌≤◌, ◌^◌, List, None, Some, IsUtf8, Result, Ok, Err}
use Rattle.std.specs.List.{replace_range}
use Rattle.std.specs.declared.ops.Range.{Range as Interval}
use Rattle.typst_lines.specs.declared.ends.LineEnds.{LineEnds}
use Rattle.typst_lines.specs.declared.ends.LineEnds.TheVariants.{Unicode}
use Rattle.typst_node.specs.Tree.{Tree}
use Rattle.typst_node.specs.Count.{count}
use Rattle.typst_node.specs.Numbered.{IsNumberedFor}
use Rattle.typst_node.specs.Plain.{plain}
use Rattle.typst_node.specs.Text.{text}
use Rattle.typst_source.specs.Blocks.{document}
use Rattle.typst_source.specs.Edited.{IsEdited, IsCrowdedBy}
use Rattle.typst_source.specs.Fits.{FitsText}
use Rattle.typst_source.specs.Source.{IsTooLarge}
use Rattle.typst_source.specs.declared.edited.Edited.{Edited}
use Rattle.typst_source.specs.declared.error.SourceError.{SourceError}
use Rattle.typst_source.specs.declared.error.SourceError.TheVariants as source_error
use Rattle.typst_language.specs.Block.{first}
use Rattle.typst_session.specs.Changes.{IsChange}
use Rattle.typst_session.specs.LinedText.{LinedText}
use Rattle.typst_session.specs.Sessions.{IsKept, Holds}
use Rattle.typst_session.specs.declared.editing.TextChange.{TextChange}
use Rattle.typst_session.specs.declared.session.Session.{Session}
use Rattle.typst_session.specs.declared.session.Held.TheVariants as held
use Rattle.typst_session.specs.declared.refusal.Refusal.{Refusal}
use Rattle.typst_session.specs.declared.refusal.Refusal.TheVariants.{Memory, Text, Overflow, NoDocument, File, Unnumberable, Range}

-- the tree of a text of Typst, numbered for a file, and all line ends of Unicode
pub record IsDocumentOf (file : ℕ) (source : List ℕ) (new : LinedText) : Type 0 where
  pub text_is : text new.tree ≡ source
  pub fresh : plain new.tree ≡ document first source
  pub numbered : IsNumberedFor file new.tree
  pub ends : new.ends ≡ Unicode

-- why no document is made of a text
abbrev pub WhyNoDocument : List ℕ → SourceError → Type 0
WhyNoDocument source source_error.Unnumberable = 2 ^ 46 ≤ count (document first source)
WhyNoDocument source source_error.Overflow = IsTooLarge first source
WhyNoDocument source source_error.Memory = Unit {0}

-- no document is held
abbrev pub HoldsNoDocument : Session → Type 0
HoldsNoDocument s = (document : LinedText) → s.held ≢ held.Document document

-- the document of a text is held
pub record IsOpened (file : ℕ) (source : List ℕ) (old new : Session) : Type 0 where
  pub utf8 : IsUtf8 source
  pub document : LinedText
  pub document_is : IsDocumentOf file source document
  pub holds : Holds old.stack.items (held.Document document) None new

-- a text becomes the document that is held, or why not
abbrev pub Opens : ℕ → List ℕ → Session → Result (Unit {0}) Refusal → Session → Type 0
Opens file source old (Ok done) new = IsOpened file source old new
Opens file source old (Err File) new = (file ≡ 0) × IsKept old new
Opens file source old (Err Text) new = ¬ (IsUtf8 source) × IsKept old new
Opens file source old (Err Unnumberable) new = (2 ^ 46 ≤ count (document first source)) × IsKept old new
Opens file source old (Err Overflow) new = IsTooLarge first source × IsKept old new
Opens file source old (Err Memory) new = IsKept old new
Opens file source old (Err _) new = ⊥

-- The text of the document that is held was edited. Which bytes were parsed and what the edit changed is told. Its
-- path and its moves are kept.
pub record IsEditedText (range : Interval ℕ) (with : List ℕ) (old : Session) (told : TextChange) (new : Session) : Type 0 where
  pub utf8 : IsUtf8 with
  pub document : LinedText
  pub after : LinedText
  pub done : Edited
  pub was : old.held ≡ held.Document document
  pub edited : IsEdited first document.tree range with done after.tree
  pub ends : after.ends ≡ document.ends
  pub reparsed : told.reparsed ≡ done.reparsed
  pub change : IsChange done.path.items done.touched done.moves told.change
  pub holds : Holds old.stack.items (held.Document after) (Some (record { path = done.path; moves = done.moves })) new

-- why the text of a document isn't edited
abbrev pub WhyNotEdited : Interval ℕ → List ℕ → Tree → Refusal → Type 0
WhyNotEdited range with tree Text = ¬ (IsUtf8 with)
WhyNotEdited range with tree Range = ¬ (FitsText (text tree) range)
WhyNotEdited range with tree Unnumberable = IsCrowdedBy first tree (replace_range (text tree) range.start range.end with)
WhyNotEdited range with tree Overflow = IsTooLarge first (replace_range (text tree) range.start range.end with)
WhyNotEdited range with tree Memory = Unit {0}
WhyNotEdited range with tree _ = ⊥

-- another text replaces a range of bytes of the document's text, or why not
abbrev pub EditsText : Interval ℕ → List ℕ → Session → Result TextChange Refusal → Session → Type 0
EditsText range with old (Ok told) new = IsEditedText range with old told new
EditsText range with old (Err NoDocument) new = HoldsNoDocument old × IsKept old new
EditsText range with old (Err refusal) new =
    (document : LinedText) × (old.held ≡ held.Document document) × WhyNotEdited range with document.tree refusal × IsKept old new

-- the lines of the document's text end by these line ends now
pub record HasLineEnds (ends : LineEnds) (old new : Session) : Type 0 where
  pub document : LinedText
  pub was : old.held ≡ held.Document document
  pub holds : Holds old.stack.items (held.Document (record { tree = document.tree; ends = ends })) old.last new

-- other line ends are taken for the document's text, or why not
abbrev pub SetsLineEnds : LineEnds → Session → Result (Unit {0}) Refusal → Session → Type 0
SetsLineEnds ends old (Ok done) new = HasLineEnds ends old new
SetsLineEnds ends old (Err NoDocument) new = HoldsNoDocument old × IsKept old new
SetsLineEnds ends old (Err Memory) new = ((document : LinedText) × (old.held ≡ held.Document document)) × IsKept old new
SetsLineEnds ends old (Err _) new = ⊥
