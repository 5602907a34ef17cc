mod OneType
