-- Capture: a function uses a local name of the code around it. The fault stands at the use.
use Rattle.std.specs.Prelude.{List, [], ◌∷◌, codes, None}
use Rattle.es_source.specs.declared.faults.FaultCode.TheVariants as fault
use Rattle.small_sources.specs.Rows.{FaultRow, at}

-- The names of a block, of the head of a `for` and of a catch; each part of a `for` stands in the scope of its head.
abbrev pub local_name_rows : List FaultRow
local_name_rows =
    (codes "{ let x; (function () { x; }); }", at fault.Capture 1 25)
    ∷ (codes "{ let x; x; }", None)
    ∷ (codes "let x; (function () { x; });", None)
    ∷ (codes "const x = 1; { (function () { x; }); }", None)
    ∷ (codes "{ (function () { x; }); let x; }", at fault.Capture 1 18)
    ∷ (codes "{ let x; } (function () { x; });", None)
    ∷ (codes "for (let i;;) (function () { i; });", at fault.Capture 1 30)
    ∷ (codes "for (let i = function () { i; };;) ;", at fault.Capture 1 28)
    ∷ (codes "for (let i; (function () { i; });) ;", at fault.Capture 1 28)
    ∷ (codes "for (let i;; (function () { i; })) ;", at fault.Capture 1 29)
    ∷ (codes "for (let i;;) i;", None)
    ∷ (codes "for (let i;;) ; (function () { i; });", None)
    ∷ (codes "try { } catch (e) { (function () { e; }); }", at fault.Capture 1 36)
    ∷ (codes "try { } catch (e) { let x; (function () { x; }); }", at fault.Capture 1 43)
    ∷ (codes "try { } catch (e) { e; }", None)
    ∷ (codes "try { (function () { e; }); } catch (e) { }", None)
    ∷ (codes "try { } catch (e) { } (function () { e; });", None)
    ∷ (codes "try { let x; } catch { (function () { x; }); }", None)
    ∷ []

-- The names of a function: a parameter, a lexical name, a declared function, the own name of a function expression.
abbrev pub function_local_rows : List FaultRow
function_local_rows =
    (codes "function f(a) { (function () { a; }); }", at fault.Capture 1 32)
    ∷ (codes "function f(a) { a; }", None)
    ∷ (codes "function f() { let a; (function () { a; }); }", at fault.Capture 1 38)
    ∷ (codes "function f() { let a; { a; } }", None)
    ∷ (codes "function f() { function g() { g(); } }", at fault.Capture 1 31)
    ∷ (codes "function f() { function g() { } g(); }", None)
    ∷ (codes "(function f() { (function () { f; }); });", at fault.Capture 1 32)
    ∷ (codes "(function f() { f(); });", None)
    ∷ (codes "function f() { (function () { f(); }); }", None)
    ∷ (codes "function f() { g(); } function g() { f(); }", None)
    ∷ (codes "({ a(b) { (function () { b; }); } });", at fault.Capture 1 26)
    ∷ (codes "({ set a(b) { (function () { b; }); } });", at fault.Capture 1 30)
    ∷ (codes "function f(a) { (function () { (function () { a; }); }); }", at fault.Capture 1 47)
    ∷ (codes "function f(a) { (function (a) { a; }); }", None)
    ∷ (codes "function f(a) { (function () { let a; a; }); }", None)
    ∷ (codes "function f(a) { (function a() { a; }); }", None)
    ∷ (codes "function f(a) { (function () { { let a; a; } }); }", None)
    ∷ (codes "(function f(f) { (function () { f; }); });", at fault.Capture 1 33)
    ∷ []

-- What is a use, and what is none; which functions stand between. A key stands outside of its method.
abbrev pub use_rows : List FaultRow
use_rows =
    (codes "{ let x; ({ a() { x; } }); }", at fault.Capture 1 19)
    ∷ (codes "{ let x; ({ get a() { x; } }); }", at fault.Capture 1 23)
    ∷ (codes "{ let x; ({ set a(b) { x; } }); }", at fault.Capture 1 24)
    ∷ (codes "{ let x; (function f() { x; }); }", at fault.Capture 1 26)
    ∷ (codes "function f() { let x; function g() { x; } }", at fault.Capture 1 38)
    ∷ (codes "{ let x; ({ [x]() { } }); }", None)
    ∷ (codes "{ let x; ({ get [x]() { } }); }", None)
    ∷ (codes "{ let x; ({ set [x](a) { } }); }", None)
    ∷ (codes "{ let x; (function () { ({ x }); }); }", at fault.Capture 1 28)
    ∷ (codes "{ let x; ({ x }); }", None)
    ∷ (codes "{ let x; (function () { ({ x: 1, x() { } }); a.x; }); }", None)
    ∷ (codes "{ let x; (function () { x = 1; }); }", at fault.Capture 1 25)
    ∷ (codes "{ let x; (function () { x++; }); }", at fault.Capture 1 25)
    ∷ (codes "{ let x; (function () { x.a = 1; }); }", at fault.Capture 1 25)
    ∷ (codes "function f() { arguments; (function () { arguments; this; }); }", None)
    ∷ (codes "function f() { ({ a() { return arguments; } }); }", None)
    ∷ []
