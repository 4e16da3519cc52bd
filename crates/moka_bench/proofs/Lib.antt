mod FirstPhase
