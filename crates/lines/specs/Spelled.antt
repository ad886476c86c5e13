-- The terms that fields spell.
use Rattle.horn.specs.Clauses.{Written}
use Rattle.lines.specs.declared.fields.Fields.{Fields}
use Rattle.lines.specs.Fields.{after}
use Rattle.lines.specs.Lines.{build}

-- the terms that are left
abbrev pub spelled : Fields → Written
spelled fields = build (after fields.rest.now)
