-- Between whom a session is opened.
use Rattle.session_judge.specs.declared.setup.Setup.{Setup}
use Rattle.session_judge.specs.Setting.{Setting}

abbrev pub setting_of : Setup → Setting
setting_of s = record { declarations = s.schema.now; service = s.service; client = s.client; upstream = s.upstream; longest = s.limit }
