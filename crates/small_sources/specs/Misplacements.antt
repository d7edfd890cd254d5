-- Misplaced: a word stands where it means nothing (ECMA-262, 13.5.1.1, 14.8.1, 14.9.1, 14.10). The fault stands at the word.
use Rattle.std.specs.Prelude.{List, [], ◌∷◌, codes, None}
use Rattle.es_source.specs.declared.faults.FaultCode.TheVariants as fault
use Rattle.small_sources.specs.Rows.{FaultRow, at}

-- `break` and `continue` in a loop, in each kind of statement between.
abbrev pub break_rows : List FaultRow
break_rows =
    (codes "while (a) break;", None)
    ∷ (codes "while (a) continue;", None)
    ∷ (codes "for (;;) break;", None)
    ∷ (codes "for (let b;;) continue;", None)
    ∷ (codes "while (a) { break; }", None)
    ∷ (codes "while (a) { { continue; } }", None)
    ∷ (codes "while (a) if (b) break;", None)
    ∷ (codes "while (a) if (b) break; else continue;", None)
    ∷ (codes "while (a) { try { break; } catch { } }", None)
    ∷ (codes "while (a) { try { } catch { break; } }", None)
    ∷ (codes "while (a) { try { } catch (e) { continue; } }", None)
    ∷ (codes "while (a) { try { } finally { break; } }", None)
    ∷ (codes "for (;;) { try { } catch (e) { } finally { continue; } }", None)
    ∷ (codes "while (a) { for (;;) ; break; }", None)
    ∷ (codes "while (a) { (function () { }); break; }", None)
    ∷ []

-- The same in no loop.
abbrev pub stray_break_rows : List FaultRow
stray_break_rows =
    (codes "break;", at fault.Misplaced 1 1)
    ∷ (codes "continue;", at fault.Misplaced 1 1)
    ∷ (codes "{ break; }", at fault.Misplaced 1 3)
    ∷ (codes "if (a) break;", at fault.Misplaced 1 8)
    ∷ (codes "if (a) ; else continue;", at fault.Misplaced 1 15)
    ∷ (codes "try { break; } catch { }", at fault.Misplaced 1 7)
    ∷ (codes "try { } catch { continue; }", at fault.Misplaced 1 17)
    ∷ (codes "try { } catch (e) { break; }", at fault.Misplaced 1 21)
    ∷ (codes "try { } finally { continue; }", at fault.Misplaced 1 19)
    ∷ (codes "while (a) for (;;) ; break;", at fault.Misplaced 1 22)
    ∷ (codes "for (;;) ; continue;", at fault.Misplaced 1 12)
    ∷ []

-- A loop is one of the same function: each kind of function ends those around it, and has its own.
abbrev pub break_in_function_rows : List FaultRow
break_in_function_rows =
    (codes "function f() { break; }", at fault.Misplaced 1 16)
    ∷ (codes "while (a) { (function () { break; }); }", at fault.Misplaced 1 28)
    ∷ (codes "while (a) (function () { while (b) break; });", None)
    ∷ (codes "while (a) { (function f() { continue; }); }", at fault.Misplaced 1 29)
    ∷ (codes "while (a) (function f() { for (;;) continue; });", None)
    ∷ (codes "while (a) { ({ b() { break; } }); }", at fault.Misplaced 1 22)
    ∷ (codes "while (a) ({ b() { while (c) break; } });", None)
    ∷ (codes "for (;;) { ({ get b() { break; } }); }", at fault.Misplaced 1 25)
    ∷ (codes "for (;;) ({ get b() { while (c) break; } });", None)
    ∷ (codes "for (;;) { ({ set b(c) { continue; } }); }", at fault.Misplaced 1 26)
    ∷ (codes "for (;;) ({ set b(c) { while (c) continue; } });", None)
    ∷ (codes "function f() { while (a) break; }", None)
    ∷ (codes "(function () { while (a) continue; });", None)
    ∷ (codes "(function () { while (a) ; break; });", at fault.Misplaced 1 28)
    ∷ (codes "while ((function () { break; })()) ;", at fault.Misplaced 1 23)
    ∷ (codes "for (a = function () { break; };;) ;", at fault.Misplaced 1 24)
    ∷ []

-- `return` in a function, of each kind and in each kind of statement.
abbrev pub return_rows : List FaultRow
return_rows =
    (codes "function f() { return; }", None)
    ∷ (codes "function f() { return 1; }", None)
    ∷ (codes "(function () { return; });", None)
    ∷ (codes "(function f() { return 1; });", None)
    ∷ (codes "({ a() { return; } });", None)
    ∷ (codes "({ get a() { return 1; } });", None)
    ∷ (codes "({ set a(b) { return; } });", None)
    ∷ (codes "function f() { { return; } }", None)
    ∷ (codes "function f() { if (a) return; else return 1; }", None)
    ∷ (codes "function f() { while (a) return; }", None)
    ∷ (codes "function f() { for (;;) return; }", None)
    ∷ (codes "function f() { try { return; } catch { return; } finally { return; } }", None)
    ∷ (codes "function f() { try { } catch (e) { return e; } }", None)
    ∷ []

-- The same in no function.
abbrev pub stray_return_rows : List FaultRow
stray_return_rows =
    (codes "return;", at fault.Misplaced 1 1)
    ∷ (codes "return 1;", at fault.Misplaced 1 1)
    ∷ (codes "{ return; }", at fault.Misplaced 1 3)
    ∷ (codes "if (a) return;", at fault.Misplaced 1 8)
    ∷ (codes "if (a) ; else return 1;", at fault.Misplaced 1 15)
    ∷ (codes "while (a) return;", at fault.Misplaced 1 11)
    ∷ (codes "for (;;) return 1;", at fault.Misplaced 1 10)
    ∷ (codes "try { return; } catch { }", at fault.Misplaced 1 7)
    ∷ (codes "try { } catch { return; }", at fault.Misplaced 1 17)
    ∷ (codes "try { } catch (e) { return e; }", at fault.Misplaced 1 21)
    ∷ (codes "try { } finally { return; }", at fault.Misplaced 1 19)
    ∷ (codes "function f() { } return;", at fault.Misplaced 1 18)
    ∷ (codes "(function () { return; }); return;", at fault.Misplaced 1 28)
    ∷ []

-- `delete` of a name.
abbrev pub delete_rows : List FaultRow
delete_rows =
    (codes "delete a;", at fault.Misplaced 1 1)
    ∷ (codes "delete (a);", at fault.Misplaced 1 1)
    ∷ (codes "delete ((a));", at fault.Misplaced 1 1)
    ∷ (codes "let a; delete a;", at fault.Misplaced 1 8)
    ∷ (codes "delete delete a;", at fault.Misplaced 1 8)
    ∷ (codes "(delete a).b;", at fault.Misplaced 1 2)
    ∷ (codes "b[delete a];", at fault.Misplaced 1 3)
    ∷ (codes "delete a.b;", None)
    ∷ (codes "delete a[b];", None)
    ∷ (codes "delete (a.b);", None)
    ∷ (codes "delete a();", None)
    ∷ (codes "delete this;", None)
    ∷ (codes "delete (a, b);", None)
    ∷ (codes "delete -a;", None)
    ∷ (codes "typeof a;", None)
    ∷ (codes "void (a);", None)
    ∷ []
