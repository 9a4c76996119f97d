use Rattle.encoding.proofs.Chains.{chain_is}
use Rattle.encoding.proofs.finding.chain.Goals as goal

pub returns : goal.returns
returns c = chain_is c.args.state c.args.key c.requires.1
