-- Growth bounds the outgoing message (Top).
use Rattle.gateway.proofs.Passing.{sent_grows}
use Rattle.gateway.proofs.Top.{surely_fits, just_fits, too_large}
use Rattle.gateway.proofs.message.Outgoing.lack.Goals as goal

pub returns-then-self-room : goal.returns-then-self-room
returns-then-self-room c = surely_fits _ _ (sent_grows c.args.self.now) c.if-self-room.true

pub returns-then-len-room : goal.returns-then-len-room
returns-then-len-room c = just_fits _ _ c.len-len.ensures c.if-len-room.true

pub returns : goal.returns
returns c = too_large _ _ c.len-len.ensures c.if-len-room.false
