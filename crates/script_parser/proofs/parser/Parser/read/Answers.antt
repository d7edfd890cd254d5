use Rattle.std.proofs.Common.{Some, None}
use Rattle.script_grammar.specs.declared.sign.Sign.TheVariants.{Token as of, Inserted as put}
use Rattle.script_grammar.specs.Kinds.{kind_of}
use Rattle.script_parser.proofs.Steps.{read_deep, read_taken, read_refused, read_stuck, read_around, read_smaller, tried_at, tried_token}
use Rattle.script_parser.proofs.parser.Parser.read.Goals as goal

pub returns-then-nesting-gt-MOST_NESTING : goal.returns-then-nesting-gt-MOST_NESTING
returns-then-nesting-gt-MOST_NESTING c =
    read_deep c.args.self.now c.loop-nesting.self c.try_take.new.self c.args.number c.args.token.now c.in-Some.nesting c.loop-nesting.invariant
    (tried_token c.loop-nesting.self c.try_take.new.self c.args.number c.args.token.now c.kind_of-kind.result c.in_ok-nesting.field-0 (Some c.in-Some.nesting) c.kind_of-kind.ensures c.in-Some.is c.in_ok-nesting.ensures)
    c.if-nesting-gt-MOST_NESTING.true

pub returns-else-nesting-gt-MOST_NESTING : goal.returns-else-nesting-gt-MOST_NESTING
returns-else-nesting-gt-MOST_NESTING c =
    read_taken c.args.self.now c.loop-nesting.self c.try_take.new.self c.args.number c.args.token.now c.in-Some.nesting c.loop-nesting.invariant
    (tried_token c.loop-nesting.self c.try_take.new.self c.args.number c.args.token.now c.kind_of-kind.result c.in_ok-nesting.field-0 (Some c.in-Some.nesting) c.kind_of-kind.ensures c.in-Some.is c.in_ok-nesting.ensures)
    c.if-nesting-gt-MOST_NESTING.false

pub returns-then-not-may_be_preceded : goal.returns-then-not-may_be_preceded
returns-then-not-may_be_preceded c =
    read_refused c.args.self.now c.loop-nesting.self c.try_take.new.self c.args.number c.args.token.now c.loop-nesting.invariant
    (tried_token c.loop-nesting.self c.try_take.new.self c.args.number c.args.token.now c.kind_of-kind.result c.in_ok-nesting.field-0 None c.kind_of-kind.ensures c.in-None.is c.in_ok-nesting.ensures)
    (cc (c.may_be_preceded.ensures, c.if-not-may_be_preceded.true))

pub loop-nesting-smaller : goal.loop-nesting-smaller
loop-nesting-smaller c =
    read_smaller c.loop-nesting.self c.try_take.new.self c.try_take-in-loop-nesting.new.self (of (kind_of c.args.token.now.kind) c.args.number c.args.token.now.after_break) c.in-Some-2.field-0
    (tried_token c.loop-nesting.self c.try_take.new.self c.args.number c.args.token.now c.kind_of-kind.result c.in_ok-nesting.field-0 None c.kind_of-kind.ensures c.in-None.is c.in_ok-nesting.ensures)
    (tried_at c.try_take.new.self c.try_take-in-loop-nesting.new.self put c.in_ok-try_take.field-0 (Some c.in-Some-2.field-0) c.in-Some-2.is c.in_ok-try_take.ensures)

pub loop-nesting-preserved : goal.loop-nesting-preserved
loop-nesting-preserved c =
    read_around c.args.self.now c.loop-nesting.self c.try_take.new.self c.try_take-in-loop-nesting.new.self c.args.number c.args.token.now c.in-Some-2.field-0 c.loop-nesting.invariant
    (tried_token c.loop-nesting.self c.try_take.new.self c.args.number c.args.token.now c.kind_of-kind.result c.in_ok-nesting.field-0 None c.kind_of-kind.ensures c.in-None.is c.in_ok-nesting.ensures)
    (tried_at c.try_take.new.self c.try_take-in-loop-nesting.new.self put c.in_ok-try_take.field-0 (Some c.in-Some-2.field-0) c.in-Some-2.is c.in_ok-try_take.ensures)
    (cc (c.may_be_preceded.ensures, c.if-not-may_be_preceded.false))

pub returns-in-None-2 : goal.returns-in-None-2
returns-in-None-2 c =
    read_stuck c.args.self.now c.loop-nesting.self c.try_take.new.self c.try_take-in-loop-nesting.new.self c.args.number c.args.token.now c.loop-nesting.invariant
    (tried_token c.loop-nesting.self c.try_take.new.self c.args.number c.args.token.now c.kind_of-kind.result c.in_ok-nesting.field-0 None c.kind_of-kind.ensures c.in-None.is c.in_ok-nesting.ensures)
    (tried_at c.try_take.new.self c.try_take-in-loop-nesting.new.self put c.in_ok-try_take.field-0 None c.in-None-2.is c.in_ok-try_take.ensures)
