-- How errors of the parts of a source become errors of the source.
use Rattle.typst_node.specs.declared.node.build.InnerError.{InnerError}
use Rattle.typst_node.specs.declared.node.build.InnerError.TheVariants as inner
use Rattle.typst_node.specs.declared.node.replace.ReplaceError.{ReplaceError}
use Rattle.typst_node.specs.declared.node.replace.ReplaceError.TheVariants as replace
use Rattle.typst_source.specs.declared.error.SourceError.{SourceError}
use Rattle.typst_source.specs.declared.error.SourceError.TheVariants.{Unnumberable, Overflow, Memory}

-- why a tree of a text is not made, if a node of it is not
abbrev pub of_inner : InnerError → SourceError
of_inner inner.Overflow = Overflow
of_inner inner.Memory = Memory

-- why a text is not edited, if the nodes of its tree are not replaced
abbrev pub of_replace : ReplaceError → SourceError
of_replace replace.Unnumberable = Unnumberable
of_replace replace.Overflow = Overflow
of_replace replace.Memory = Memory
