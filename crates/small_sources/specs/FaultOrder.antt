-- Which fault is the first: the phases in order; of the static rules the least place, and at one place the lower code.
use Rattle.std.specs.Prelude.{List, [], ◌∷◌, codes, None}
use Rattle.es_source.specs.declared.faults.FaultCode.TheVariants as fault
use Rattle.small_sources.specs.Rows.{FaultRow, at}

-- Two faults, also at one place.
abbrev pub order_rows : List FaultRow
order_rows =
    (codes "break; let a; let a;", at fault.Misplaced 1 1)
    ∷ (codes "let a; let a; break;", at fault.Duplicate 1 12)
    ∷ (codes "delete a; break;", at fault.Misplaced 1 1)
    ∷ (codes "break; delete a;", at fault.Misplaced 1 1)
    ∷ (codes "{ let x; (function () { x; }); } let a; let a;", at fault.Capture 1 25)
    ∷ (codes "let eval; let eval;", at fault.BadBinding 1 5)
    -- the line counts before the column
    ∷ (codes "let a;          let a;\nbreak;", at fault.Duplicate 1 21)
    ∷ (codes "      break;\nlet a, a;", at fault.Misplaced 1 7)
    ∷ (codes "let a;\n  break;\nlet a;", at fault.Misplaced 2 3)
    -- at one place: Capture is lower than BadBinding
    ∷ (codes "{ (function () { eval = 1; }); let eval; }", at fault.Capture 1 18)
    ∷ []

-- Tokens before the grammar, and the grammar before the static rules, wherever they stand.
abbrev pub phase_rows : List FaultRow
phase_rows =
    (codes "break; )", at fault.Unexpected 1 8)
    ∷ (codes "let a; let a; else", at fault.Unexpected 1 15)
    ∷ (codes ") 1a", at fault.BadToken 1 3)
    ∷ (codes "break; ) '", at fault.BadToken 1 10)
    ∷ (codes "a b", at fault.Unexpected 1 3)
    ∷ (codes "a;", None)
    ∷ ([], None)
    ∷ []
