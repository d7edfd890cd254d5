-- Duplicate: a name is bound twice (ECMA-262, 13.2.5.1, 14.2.1, 14.3.1.1, 14.7.4.1, 14.15.1, 15.2.1, 16.1.1). The fault stands at the later name.
use Rattle.std.specs.Prelude.{List, [], ◌∷◌, codes, None}
use Rattle.es_source.specs.declared.faults.FaultCode.TheVariants as fault
use Rattle.small_sources.specs.Rows.{FaultRow, at}

-- The lexical names and the declared functions of a script.
abbrev pub script_name_rows : List FaultRow
script_name_rows =
    (codes "let a; let a;", at fault.Duplicate 1 12)
    ∷ (codes "let a, a;", at fault.Duplicate 1 8)
    ∷ (codes "let a; const a = 1;", at fault.Duplicate 1 14)
    ∷ (codes "const a = 1; let a;", at fault.Duplicate 1 18)
    ∷ (codes "const a = 1, a = 2;", at fault.Duplicate 1 14)
    ∷ (codes "let a; function a() { }", at fault.Duplicate 1 17)
    ∷ (codes "function a() { } let a;", at fault.Duplicate 1 22)
    ∷ (codes "const a = 1; function a() { }", at fault.Duplicate 1 23)
    ∷ (codes "function a() { } const a = 1;", at fault.Duplicate 1 24)
    ∷ (codes "function a() { } function a() { }", None)
    ∷ (codes "let a; let b; let a;", at fault.Duplicate 1 19)
    ∷ (codes "let a; let a; let a;", at fault.Duplicate 1 12)
    ∷ (codes "let a, b;", None)
    ∷ (codes "let a; let A;", None)
    ∷ (codes "let ab; let a;", None)
    ∷ []

-- Those of a block, of each kind, and of the head of a `for`: an inner one has its own.
abbrev pub block_name_rows : List FaultRow
block_name_rows =
    (codes "{ let a; let a; }", at fault.Duplicate 1 14)
    ∷ (codes "{ const a = 1; let a; }", at fault.Duplicate 1 20)
    ∷ (codes "let a; { let a; }", None)
    ∷ (codes "{ let a; } { let a; }", None)
    ∷ (codes "{ let a; { let a; } }", None)
    ∷ (codes "try { let a; let a; } catch { }", at fault.Duplicate 1 18)
    ∷ (codes "try { } catch { let a; let a; }", at fault.Duplicate 1 28)
    ∷ (codes "try { } catch (e) { let a; let a; }", at fault.Duplicate 1 32)
    ∷ (codes "try { } finally { let a; let a; }", at fault.Duplicate 1 30)
    ∷ (codes "try { let a; } catch { let a; } finally { let a; }", None)
    ∷ (codes "if (a) { let a; let a; }", at fault.Duplicate 1 21)
    ∷ (codes "if (a) { let a; } else { let a; }", None)
    ∷ (codes "while (a) { let a; let a; }", at fault.Duplicate 1 24)
    ∷ (codes "let a; while (a) { let a; }", None)
    ∷ (codes "for (let a, a;;) ;", at fault.Duplicate 1 13)
    ∷ (codes "for (const a = 1, a = 2;;) ;", at fault.Duplicate 1 19)
    ∷ (codes "for (let a;;) { let a; }", None)
    ∷ (codes "let a; for (let a;;) ;", None)
    ∷ (codes "for (let a;;) ; for (let a;;) ;", None)
    ∷ []

-- Those of a function with its parameters. A declared function may have the name of a parameter.
abbrev pub function_name_rows : List FaultRow
function_name_rows =
    (codes "function f() { let a; let a; }", at fault.Duplicate 1 27)
    ∷ (codes "let a; function f() { let a; }", None)
    ∷ (codes "function f(a, a) { }", at fault.Duplicate 1 15)
    ∷ (codes "(function (a, a) { });", at fault.Duplicate 1 15)
    ∷ (codes "(function f(a, a) { });", at fault.Duplicate 1 16)
    ∷ (codes "({ b(a, a) { } });", at fault.Duplicate 1 9)
    ∷ (codes "function f(a) { let a; }", at fault.Duplicate 1 21)
    ∷ (codes "(function (a) { const a = 1; });", at fault.Duplicate 1 23)
    ∷ (codes "(function f(a) { let a; });", at fault.Duplicate 1 22)
    ∷ (codes "({ b(a) { let a; } });", at fault.Duplicate 1 15)
    ∷ (codes "({ set b(a) { let a; } });", at fault.Duplicate 1 19)
    ∷ (codes "({ get b() { let a; let a; } });", at fault.Duplicate 1 25)
    ∷ (codes "function f(a) { function a() { } }", None)
    ∷ (codes "function f() { function a() { } function a() { } }", None)
    ∷ (codes "function f() { let a; function a() { } }", at fault.Duplicate 1 32)
    ∷ (codes "function f(a) { { let a; } }", None)
    ∷ (codes "function f(a) { } function g(a) { }", None)
    ∷ (codes "(function a(a) { });", None)
    ∷ (codes "(function a() { let a; });", None)
    ∷ (codes "function a() { let a; }", None)
    ∷ []

-- A catch parameter and the names of the block of the catch.
abbrev pub catch_name_rows : List FaultRow
catch_name_rows =
    (codes "try { } catch (e) { let e; }", at fault.Duplicate 1 25)
    ∷ (codes "try { } catch (e) { const e = 1; }", at fault.Duplicate 1 27)
    ∷ (codes "try { } catch (e) { { let e; } }", None)
    ∷ (codes "try { let e; } catch (e) { } finally { let e; }", None)
    ∷ (codes "let e; try { } catch (e) { }", None)
    ∷ (codes "try { } catch (e) { try { } catch (e) { } }", None)
    ∷ (codes "try { } catch (e) { for (let e;;) ; }", None)
    ∷ []

-- A second `__proto__` with a colon in one object literal, as a word or a text.
abbrev pub prototype_rows : List FaultRow
prototype_rows =
    (codes "({ __proto__: a, __proto__: b });", at fault.Duplicate 1 18)
    ∷ (codes "({ '__proto__': a, __proto__: b });", at fault.Duplicate 1 20)
    ∷ (codes "({ __proto__: a, '__proto__': b });", at fault.Duplicate 1 18)
    ∷ (codes "({ __proto__: a, b: c, __proto__: d, __proto__: e });", at fault.Duplicate 1 24)
    ∷ (codes "({ __proto__: a, __proto__ });", None)
    ∷ (codes "({ __proto__, __proto__: a });", None)
    ∷ (codes "({ __proto__: a, __proto__() { } });", None)
    ∷ (codes "({ __proto__: a, ['__proto__']: b });", None)
    ∷ (codes "({ __proto__: a, get __proto__() { } });", None)
    ∷ (codes "({ __proto__: a, set __proto__(b) { } });", None)
    ∷ (codes "({ __proto__: { __proto__: a } });", None)
    ∷ (codes "({ __proto__: a }, { __proto__: b });", None)
    ∷ (codes "({ a: b, a: c });", None)
    ∷ []
