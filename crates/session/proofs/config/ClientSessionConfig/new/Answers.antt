-- `ClientSessionConfig::new` meets its contract: the text as it is stored.
-- Assumes nothing.
use Rattle.session.specs.Record.{default_config}
use Rattle.session.proofs.config.ClientSessionConfig.new.Goals as goal

pub returns : goal.returns
unfolding default_config
returns c = rw c.new.ensures
