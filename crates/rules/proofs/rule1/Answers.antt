use Rattle.rules.proofs.Seeing.{arm_conjunctive, arm_disjunctive, rests1}
use Rattle.rules.proofs.rule1.Goals as goal

pub returns-in-Conjunctive-clause-does : goal.returns-in-Conjunctive-clause-does
returns-in-Conjunctive-clause-does c = arm_conjunctive c.args.book.now.table.sound c.args.c c.requires.room.1 c.requires.here c.role.ensures c.in-Conjunctive.is c.conjunctive.ensures.does

pub returns-in-Disjunctive-clause-does : goal.returns-in-Disjunctive-clause-does
returns-in-Disjunctive-clause-does c = arm_disjunctive c.args.book.now.table.sound c.args.c c.requires.room.1 c.requires.here c.role.ensures c.in-Disjunctive.is c.disjunctive.ensures.does

pub returns-in_default-clause-does : goal.returns-in_default-clause-does
returns-in_default-clause-does c = rests1 c.args.book.now.table.sound c.args.c c.requires.room.1 c.requires.here c.role.ensures c.in_default.not-Conjunctive c.in_default.not-Disjunctive
