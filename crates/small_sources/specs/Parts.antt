-- Each part of each form is looked at: in every place where an expression may stand there stands one with a fault.
use Rattle.std.specs.Prelude.{List, [], ◌∷◌, codes}
use Rattle.es_source.specs.declared.faults.FaultCode.TheVariants as fault
use Rattle.small_sources.specs.Rows.{FaultRow, at}

-- In expressions (13.2 to 13.16).
abbrev pub expression_part_rows : List FaultRow
expression_part_rows =
    (codes "(delete a);", at fault.Misplaced 1 2)
    ∷ (codes "[delete a];", at fault.Misplaced 1 2)
    ∷ (codes "[b, delete a];", at fault.Misplaced 1 5)
    ∷ (codes "({ b: delete a });", at fault.Misplaced 1 7)
    ∷ (codes "({ [delete a]: b });", at fault.Misplaced 1 5)
    ∷ (codes "({ b, c: delete a });", at fault.Misplaced 1 10)
    ∷ (codes "-delete a;", at fault.Misplaced 1 2)
    ∷ (codes "(delete a).b++;", at fault.Misplaced 1 2)
    ∷ (codes "--(delete a).b;", at fault.Misplaced 1 4)
    ∷ (codes "(delete a).b;", at fault.Misplaced 1 2)
    ∷ (codes "(delete a)[b];", at fault.Misplaced 1 2)
    ∷ (codes "b[delete a];", at fault.Misplaced 1 3)
    ∷ (codes "(delete a)();", at fault.Misplaced 1 2)
    ∷ (codes "b(delete a);", at fault.Misplaced 1 3)
    ∷ (codes "b(c, delete a);", at fault.Misplaced 1 6)
    ∷ (codes "new (delete a);", at fault.Misplaced 1 6)
    ∷ (codes "new b(delete a);", at fault.Misplaced 1 7)
    ∷ (codes "delete a * b;", at fault.Misplaced 1 1)
    ∷ (codes "-b * delete a;", at fault.Misplaced 1 6)
    ∷ (codes "delete a && b;", at fault.Misplaced 1 1)
    ∷ (codes "b ?? delete a;", at fault.Misplaced 1 6)
    ∷ (codes "delete a ? b : c;", at fault.Misplaced 1 1)
    ∷ (codes "b ? delete a : c;", at fault.Misplaced 1 5)
    ∷ (codes "b ? c : delete a;", at fault.Misplaced 1 9)
    ∷ (codes "(delete a).b = c;", at fault.Misplaced 1 2)
    ∷ (codes "b = delete a;", at fault.Misplaced 1 5)
    ∷ (codes "delete a, b;", at fault.Misplaced 1 1)
    ∷ (codes "b, delete a;", at fault.Misplaced 1 4)
    ∷ []

-- In declarations and statements (clause 14).
abbrev pub statement_part_rows : List FaultRow
statement_part_rows =
    (codes "let b = delete a;", at fault.Misplaced 1 9)
    ∷ (codes "const b = 1, c = delete a;", at fault.Misplaced 1 18)
    ∷ (codes "{ delete a; }", at fault.Misplaced 1 3)
    ∷ (codes "{ b; delete a; }", at fault.Misplaced 1 6)
    ∷ (codes "if (delete a) ;", at fault.Misplaced 1 5)
    ∷ (codes "if (b) delete a;", at fault.Misplaced 1 8)
    ∷ (codes "if (delete a) ; else ;", at fault.Misplaced 1 5)
    ∷ (codes "if (b) delete a; else ;", at fault.Misplaced 1 8)
    ∷ (codes "if (b) ; else delete a;", at fault.Misplaced 1 15)
    ∷ (codes "while (delete a) ;", at fault.Misplaced 1 8)
    ∷ (codes "while (b) delete a;", at fault.Misplaced 1 11)
    ∷ (codes "for (delete a;;) ;", at fault.Misplaced 1 6)
    ∷ (codes "for (let b = delete a;;) ;", at fault.Misplaced 1 14)
    ∷ (codes "for (;delete a;) ;", at fault.Misplaced 1 7)
    ∷ (codes "for (;;delete a) ;", at fault.Misplaced 1 8)
    ∷ (codes "for (;;) delete a;", at fault.Misplaced 1 10)
    ∷ (codes "throw delete a;", at fault.Misplaced 1 7)
    ∷ (codes "try { delete a; } catch { }", at fault.Misplaced 1 7)
    ∷ (codes "try { } catch { delete a; }", at fault.Misplaced 1 17)
    ∷ (codes "try { } catch (b) { delete a; }", at fault.Misplaced 1 21)
    ∷ (codes "try { } finally { delete a; }", at fault.Misplaced 1 19)
    ∷ (codes "try { } catch { } finally { delete a; }", at fault.Misplaced 1 29)
    ∷ []

-- In functions of each kind, and in their computed names (15.2, 15.4).
abbrev pub function_part_rows : List FaultRow
function_part_rows =
    (codes "function f() { delete a; }", at fault.Misplaced 1 16)
    ∷ (codes "function f() { return delete a; }", at fault.Misplaced 1 23)
    ∷ (codes "(function () { delete a; });", at fault.Misplaced 1 16)
    ∷ (codes "(function f() { delete a; });", at fault.Misplaced 1 17)
    ∷ (codes "({ b() { delete a; } });", at fault.Misplaced 1 10)
    ∷ (codes "({ get b() { delete a; } });", at fault.Misplaced 1 14)
    ∷ (codes "({ set b(c) { delete a; } });", at fault.Misplaced 1 15)
    ∷ (codes "({ [delete a]() { } });", at fault.Misplaced 1 5)
    ∷ (codes "({ get [delete a]() { } });", at fault.Misplaced 1 9)
    ∷ (codes "({ set [delete a](b) { } });", at fault.Misplaced 1 9)
    ∷ (codes "function f() { } delete a;", at fault.Misplaced 1 18)
    ∷ []
