use Prim.Native.Nat.{◌+◌, ◌*◌}
use native.Mathlib.Omega.{arith}
use mathlib.Core.Path.{refl, sym}
use Rattle.encoding.specs.Shows.{counted}
use Rattle.encoding.proofs.Steps.{roomy, ask-old, ask_spilt, ask-new}
use Rattle.encoding.proofs.Chains.{absent_found, chain_low}
use Rattle.encoding.proofs.Indexing.{indexed_new}
use Rattle.encoding.proofs.Listing.{last-low}
use Rattle.encoding.proofs.index.Index.ask.Goals as goal

pub returns-in-Some-clause-asks : goal.returns-in-Some-clause-asks
returns-in-Some-clause-asks c =
    let a = c.args in
    ask-old (counted a.c) a.state a.key a.self.now.words.now (roomy a.c) refl _ _ _ refl refl c.in-Some.ensures.1 c.in-Some.ensures.0

pub returns-then-full-clause-asks : goal.returns-then-full-clause-asks
returns-then-full-clause-asks c =
    let a = c.args in
    ask_spilt (counted a.c) a.state a.key a.self.now.words.now (roomy a.c) refl _ _ _ refl refl (absent_found c.in_default.ensures) (omega arith) _ c.spilt.ensures c.if-full.true

pub enter_chain-requires : goal.enter_chain-requires
enter_chain-requires c = (omega (arith, c.args.c.few_variables, c.if-full.false), omega (arith, c.chain-h.ensures, chain_low (c.args.state * 2048 + c.args.key)), c.args.self.now.finder_long)

pub enter_own-requires : goal.enter_own-requires
enter_own-requires c =
    let a = c.args in
    let low = c.args.c.few_states in (
      omega (arith, c.requires.room.0, low),
      omega (arith, c.args.c.few_variables, c.if-full.false),
      a.self.now.own_long,
      last-low a.self.now.words.now a.state a.c.variables _ (c.requires.indexed.listed.lasts a.state (omega (arith, c.requires.room.0, low))),
    )

pub returns-clause-asks : goal.returns-clause-asks
returns-clause-asks c =
    let a = c.args in
    ask-new (counted a.c) a.state a.key a.self.now.words.now (roomy a.c) refl _ _ _ refl refl (absent_found c.in_default.ensures) (omega arith) _ c.with_variable.ensures c.if-full.false a.self.now.words_long

pub returns-clause-indexed : goal.returns-clause-indexed
returns-clause-indexed c =
    let a = c.args in
    let w = a.self.now.words.now in
    indexed_new (counted a.c) _ _ _ _ c.with_variable.ensures
    (c.enter_chain.ensures w (a.state * 2048 + a.key) (sym c.chain-h.ensures) a.self.now.words_long c.in_default.ensures c.requires.indexed.chained)
    (c.enter_own.ensures w (a.state * 2048 + a.key) (let q = c.requires.room.1 in omega arith) a.self.now.words_long c.requires.indexed.listed)
