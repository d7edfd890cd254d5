-- BadBinding: a name may not be bound or assigned to (ECMA-262, 13.1.1, 13.4.1, 13.15.1). The fault stands at the name.
use Rattle.std.specs.Prelude.{List, [], ◌∷◌, codes, None}
use Rattle.es_source.specs.declared.faults.FaultCode.TheVariants as fault
use Rattle.small_sources.specs.Rows.{FaultRow, at}

-- Each way to bind a name, and the three names.
abbrev pub bound_name_rows : List FaultRow
bound_name_rows =
    (codes "let eval;", at fault.BadBinding 1 5)
    ∷ (codes "let arguments;", at fault.BadBinding 1 5)
    ∷ (codes "let undefined;", at fault.BadBinding 1 5)
    ∷ (codes "const eval = 1;", at fault.BadBinding 1 7)
    ∷ (codes "let a, eval = 1;", at fault.BadBinding 1 8)
    ∷ (codes "{ let undefined; }", at fault.BadBinding 1 7)
    ∷ (codes "for (let eval;;) ;", at fault.BadBinding 1 10)
    ∷ (codes "for (const arguments = 1;;) ;", at fault.BadBinding 1 12)
    ∷ (codes "function eval() { }", at fault.BadBinding 1 10)
    ∷ (codes "(function arguments() { });", at fault.BadBinding 1 11)
    ∷ (codes "function f(eval) { }", at fault.BadBinding 1 12)
    ∷ (codes "(function (a, arguments) { });", at fault.BadBinding 1 15)
    ∷ (codes "(function f(undefined) { });", at fault.BadBinding 1 13)
    ∷ (codes "({ a(eval) { } });", at fault.BadBinding 1 6)
    ∷ (codes "({ set a(arguments) { } });", at fault.BadBinding 1 10)
    ∷ (codes "try { } catch (eval) { }", at fault.BadBinding 1 16)
    ∷ (codes "function f() { let arguments; }", at fault.BadBinding 1 20)
    ∷ (codes "let evals, Eval, argument;", None)
    ∷ (codes "({ eval() { }, arguments: 1, get undefined() { } });", None)
    ∷ (codes "a.eval;", None)
    ∷ (codes "let a = eval, b = undefined;", None)
    ∷ []

-- Each way to write a name, and the two names.
abbrev pub written_name_rows : List FaultRow
written_name_rows =
    (codes "eval = 1;", at fault.BadBinding 1 1)
    ∷ (codes "arguments = 1;", at fault.BadBinding 1 1)
    ∷ (codes "eval += 1;", at fault.BadBinding 1 1)
    ∷ (codes "arguments -= 1;", at fault.BadBinding 1 1)
    ∷ (codes "eval *= 1;", at fault.BadBinding 1 1)
    ∷ (codes "eval %= 1;", at fault.BadBinding 1 1)
    ∷ (codes "eval++;", at fault.BadBinding 1 1)
    ∷ (codes "arguments--;", at fault.BadBinding 1 1)
    ∷ (codes "++arguments;", at fault.BadBinding 1 3)
    ∷ (codes "--eval;", at fault.BadBinding 1 3)
    ∷ (codes "a = eval = 1;", at fault.BadBinding 1 5)
    ∷ (codes "for (eval = 1;;) ;", at fault.BadBinding 1 6)
    ∷ (codes "function f() { arguments = 1; }", at fault.BadBinding 1 16)
    ∷ (codes "undefined = 1;", None)
    ∷ (codes "undefined++;", None)
    ∷ (codes "eval.a = 1;", None)
    ∷ (codes "eval[0]++;", None)
    ∷ (codes "a.eval = 1;", None)
    ∷ (codes "a[eval] = 1;", None)
    ∷ (codes "eval();", None)
    ∷ (codes "({ eval });", None)
    ∷ (codes "function f() { arguments[0] = 1; }", None)
    ∷ []
